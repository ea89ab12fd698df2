-- The version, and the answers behind it.
use Rattle.std.proofs.Common.{sym}
use Rattle.reports.proofs.Strings.{json-written}
use Rattle.reports.proofs.json.json_of.Goals as goal

pub returns : goal.returns
returns c version answers is =
    let read = c.in-Some.ensures version answers is in
    json-written version answers c.in-Some.head.number.now c.new-json.result.items c.extend_from_slice.new.self.items
    c.extend_from_slice-2.new.self.items c.extend_from_slice-3.new.self.items c.append_answers.new.json.items
    c.extend_from_slice-4.new.self.items read.0 c.new-json.ensures.items c.in_ok-extend_from_slice.ensures.items
    c.in_ok-extend_from_slice-2.ensures.items c.in_ok-extend_from_slice-3.ensures.items
    (c.in_ok-append_answers.ensures 0 answers read.2 (sym read.1)) c.in_ok-extend_from_slice-4.ensures.items
