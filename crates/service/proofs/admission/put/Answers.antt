use Rattle.std.proofs.Common.{◌∙◌, List, ◌++◌, ◌∷◌, [], codes, ap}
use Rattle.std.proofs.lemmas.List.{append_assoc}
use Rattle.std.proofs.lemmas.Result.{on_ok_weaker}
use Rattle.http_header.specs.FieldValue.{FieldValue}
use Rattle.http1.specs.Fields.{Header}
use Rattle.http_server.specs.Response.{fields_of}
use Rattle.service.specs.Denials.{uncached}
use Rattle.service.proofs.admission.put.Goals as goal

pub returns : goal.returns
returns c =
    let before = fields_of c.args.response.now in
    let last = (c.args.name, c.args.value.bytes) ∷ [] in
    on_ok_weaker c.add_header-2.result (λ added. record {
      status = c.add_header-2.ensures.status ∙ c.add_header.ensures.status;
      headers = added
          ∙ (ap (λ (t : List Header). t ++ last)
          (c.in_ok-add_header.ensures.headers
          ∙ ap (λ (v : FieldValue). before ++ (codes "cache-control", v.bytes) ∷ []) c.from_static.ensures)
          ∙ append_assoc before (uncached ∷ []) last);
      body = ap (λ b. b.items) c.add_header-2.ensures.body
          ∙ (ap (λ b. b.items) c.add_header.ensures.body ∙ c.in_ok-put_slice.ensures.ok);
    }) c.add_header-2.ensures.headers
