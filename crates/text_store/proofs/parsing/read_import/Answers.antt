use Rattle.std.proofs.Common.{◌-◌, Option, Some, None, subst, take, drop, length, length-drop, arith, rules}
use Rattle.std.proofs.lemmas.List.{take_all}
use Rattle.hl_base.specs.declared.change.Splice.{Splice as Part}
use Rattle.text_store.specs.Contents.{IsStateAt}
use Rattle.text_store.specs.Parsed.{IsPartIn}
use Rattle.text_store.proofs.Payloads.{no_import, import_without, import_change}
use Rattle.text_store.proofs.parsing.read_import.Goals as goal

pub returns-in_default : goal.returns-in_default
returns-in_default c =
    let none : IsStateAt c.args.payload.now 0 None = search rules in
    no_import c.args.payload.now none

pub returns-in-None : goal.returns-in-None
returns-in-None c =
    let payload = c.args.payload.now in
    let behind = c.in-Some.behind in
    let state_there : IsStateAt payload 0 (Some (c.in-Some.state, behind)) = search rules in
    import_without payload c.in-Some.state (drop behind payload) state_there.0 (take (length payload - behind) (drop behind payload))
    (take_all (length payload - behind) (drop behind payload) (omega (arith, length-drop behind payload)))
    (subst (λ (found : Option Part). IsPartIn (take (length payload - behind) (drop behind payload)) found) c.in-None.is c.in_ok-read_splice.ensures)

pub returns-in-Some-2 : goal.returns-in-Some-2
returns-in-Some-2 c =
    let payload = c.args.payload.now in
    let behind = c.in-Some.behind in
    let state_there : IsStateAt payload 0 (Some (c.in-Some.state, behind)) = search rules in
    import_change payload c.in-Some.state (drop behind payload) state_there.0 c.in-Some-2.part (take (length payload - behind) (drop behind payload))
    (take_all (length payload - behind) (drop behind payload) (omega (arith, length-drop behind payload))) state_there.2
    (subst (λ (found : Option Part). IsPartIn (take (length payload - behind) (drop behind payload)) found) c.in-Some-2.is c.in_ok-read_splice.ensures)
