-- The lines of the datagrams so far are written.
use Rattle.std.proofs.Common.{◌≡◌, ◌++◌, take}
use Rattle.std.specs.List.{flat_map}
use Rattle.script.specs.OutputText.{sent_text}
use Rattle.script.proofs.output_text.push_all_sent.Given as goal

abbrev pub invariant-loop-sent : goal.invariant-loop-sent
invariant-loop-sent l = l.text.items ≡ l.fn.text.items ++ flat_map sent_text (take l.sent-index l.list)
