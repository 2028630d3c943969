use Rattle.std.proofs.Common.{◌≡◌, List, pos, ap, ◌∙◌, sym, arith}
use Rattle.std.proofs.lemmas.Int.{to_z-of_z}
use Rattle.live_index.specs.declared.runs.Run.{Run}
use Rattle.live_index.specs.Runs.{place_in, sum_at, before}
use Rattle.live_index.proofs.RunLaws.{place-within, sum_from-at}
use Rattle.live_index.proofs.runs.Runs.before.Goals as goal
use mir.Syntax.{w128}

pub sum_at-requires : goal.sum_at-requires
sum_at-requires c =
    let same : c.deref.result.now ≡ c.deref-2.result.now = c.deref.ensures.value ∙ sym c.deref-2.ensures.value in
    let at : c.place_of-at.result ≡ place_in c.deref-2.result.now c.args.end = c.place_of-at.ensures ∙ ap (λ (runs : List Run). place_in runs c.args.end) same in
    omega (arith, at, place-within c.deref-2.result.now c.args.end)

pub returns : goal.returns
returns c =
    to_z-of_z w128 c.sum_at.result (record { sfits = c.sum_at.type_inv })
    ∙ c.sum_at.ensures
    ∙ ap (λ (runs : List Run). sum_at (pos 0) runs c.place_of-at.result) c.deref-2.ensures.value
    ∙ ap (sum_at (pos 0) c.self.inside.items.items) (c.place_of-at.ensures ∙ ap (λ (runs : List Run). place_in runs c.args.end) c.deref.ensures.value)
    ∙ sym (sum_from-at (pos 0) c.self.inside.items.items c.args.end)
    ∙ ap (λ (runs : List Run). before runs c.args.end) c.self.view_is
