use Rattle.std.proofs.Common.{◌≡◌, ◌∙◌, ◌++◌, ◌∷◌, [], List, ℕ, length, refl, ap, arith, rules}
use Rattle.std.specs.Ordering.{nat_cmp}
use Rattle.std.specs.Cmp.Lexicographic.{slice_cmp}
use Rattle.std.specs.FinMap.Entries.{put}
use Rattle.text_store.specs.Names.{places_in}
use Rattle.text_store.proofs.Named.{placed_push, placed_same}
use Rattle.text_store.proofs.naming.push_state.Goals as goal

pub returns-in_err-reserve-clause-placed : goal.returns-in_err-reserve-clause-placed
returns-in_err-reserve-clause-placed c =
    placed_same c.args.states.now.items _ (places_in c.args.places.now.entries) _ c.reserve.ensures.items refl c.requires.placed

pub returns-in_err-put_place-clause-placed : goal.returns-in_err-put_place-clause-placed
returns-in_err-put_place-clause-placed c =
    placed_same c.args.states.now.items _ (places_in c.args.places.now.entries) _ c.reserve.ensures.items (ap places_in c.in_err-put_place.ensures.err) c.requires.placed

pub returns-in_err-push-clause-placed : goal.returns-in_err-push-clause-placed
returns-in_err-push-clause-placed c = absurd (omega (arith, c.in_ok-reserve.ensures.ok, c.in_err-push.ensures.full))

pub returns-clause-placed : goal.returns-clause-placed
returns-clause-placed c =
    let old = c.args.states.now.items in
    let pushed : c.push.new.self.items ≡ old ++ c.args.state ∷ [] = search rules in
    let counted : c.len.result ≡ length old = search rules in
    placed_push old c.push.new.self.items c.args.state (places_in c.args.places.now.entries) (places_in c.put_place.new.places.entries) c.len.result c.requires.placed c.requires.other pushed counted
    (c.in_ok-put_place.ensures.ok ∙ ap (λ (name : List ℕ). put (slice_cmp nat_cmp) name c.len.result (places_in c.args.places.now.entries)) c.as_bytes.ensures)
