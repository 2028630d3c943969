use Rattle.std.proofs.Common.{Bor, ◌≡◌, IfOk, List, map, ap, ◌∙◌, subst}
use Rattle.query_terms.specs.Sought.{known_of}
use Rattle.csv_rules.specs.declared.kinds.Block.{Block}
use Rattle.csv_entries.specs.Blocks.{applying, fields_for}
use Rattle.bank_explanations.proofs.Rows.{applying_by}
use Rattle.bank_explanations.proofs.parts.fields_by.Goals as goal

pub returns : goal.returns
returns c =
    let rules = c.args.rules.now in
    let found : map (λ (b : Bor Block). b.now) c.as_slice-4.result.now ≡ applying (known_of rules.regexes.items) rules.sheet c.args.columns.now
    = ap (map (λ (b : Bor Block). b.now)) c.as_slice-4.ensures.value
    ∙ applying_by rules c.args.columns.now _ _ _ _ (c.in_ok-finder.ensures.known ∙ ap known_of c.as_slice.ensures.value) c.as_slice-2.ensures c.as_slice-3.ensures c.in_ok-blocks.ensures.found in
    subst (λ (bs : List Block). IfOk c.read_fields.result (λ g. g ≡ fields_for rules.sheet c.args.columns.now bs)) found c.read_fields.ensures
