use Rattle.std.proofs.Common.{◌≡◌, ◌∙◌, List, ℕ, Some, None, sym, ap, arith, rules}
use Rattle.hl_base.proofs.Replays.{on_ok_map}
use Rattle.text_store.specs.Names.{places_in, place_at}
use Rattle.text_store.proofs.Named.{mark_behind, place_inside, put_in_place}
use Rattle.text_store.proofs.naming.put_state.Goals as goal

pub index_mut-requires : goal.index_mut-requires
index_mut-requires c =
    let places = places_in c.args.places.now.entries in
    let found : place_at c.args.state.name places ≡ Some c.in-Some.place =
    ap (λ (name : List ℕ). place_at name places) (sym c.as_bytes.ensures) ∙ sym c.place_of.ensures ∙ c.in-Some.is in
    omega (arith, place_inside c.args.states.now.items c.args.state places c.in-Some.place c.requires found, c.args.states.now.ok.0)

pub returns-in-Some-clause-ok : goal.returns-in-Some-clause-ok
returns-in-Some-clause-ok c =
    let places = places_in c.args.places.now.entries in
    let found : place_at c.args.state.name places ≡ Some c.in-Some.place =
    ap (λ (name : List ℕ). place_at name places) (sym c.as_bytes.ensures) ∙ sym c.place_of.ensures ∙ c.in-Some.is in
    (put_in_place c.args.states.now.items c.args.state places c.in-Some.place c.requires found _ (search rules)).0

pub returns-in-Some-clause-placed : goal.returns-in-Some-clause-placed
returns-in-Some-clause-placed c =
    let places = places_in c.args.places.now.entries in
    let found : place_at c.args.state.name places ≡ Some c.in-Some.place =
    ap (λ (name : List ℕ). place_at name places) (sym c.as_bytes.ensures) ∙ sym c.place_of.ensures ∙ c.in-Some.is in
    (put_in_place c.args.states.now.items c.args.state places c.in-Some.place c.requires found _ (search rules)).1

pub push_state-requires-clause-other : goal.push_state-requires-clause-other
push_state-requires-clause-other c =
    let places = places_in c.args.places.now.entries in
    ap (λ (name : List ℕ). place_at name places) (sym c.as_bytes.ensures) ∙ sym c.place_of.ensures ∙ c.in-None.is

pub returns-in-None-clause-ok : goal.returns-in-None-clause-ok
returns-in-None-clause-ok c =
    let places = places_in c.args.places.now.entries in
    let states = c.args.states.now.items in
    let none : place_at c.args.state.name places ≡ None =
    ap (λ (name : List ℕ). place_at name places) (sym c.as_bytes.ensures) ∙ sym c.place_of.ensures ∙ c.in-None.is in
    on_ok_map c.push_state.result (λ pushed. pushed ∙ sym (mark_behind c.args.state 0 states (sym (c.requires c.args.state.name) ∙ none))) c.push_state.ensures.ok
