use Rattle.std.proofs.Common.{◌≡◌, ℕ, ◌+◌, ◌-◌, ◌^◌, ◌<◌, cond, ap, sym, subst, ◌∙◌}
use Rattle.live_journal.specs.Journals.{Journal, Planned}
use Rattle.loaded_texts.specs.Ways.{IsMadeFrom}
use Rattle.loaded_texts.proofs.Putting.{can_take}
use Rattle.live_journal.proofs.live.Live.put.Goals as goal

pub raised-self-inside-requires : goal.raised-self-inside-requires
raised-self-inside-requires c = λ e.
    subst (λ (n : ℕ). n < 2 ^ 64 - 1) (ap (λ (j : Journal). j.revision) (sym c.self.view_is)) (c.requires.counts (ap (λ (p : Planned). p.same) (sym c.plan.view_is) ∙ e))

pub put_made-requires : goal.put_made-requires
put_made-requires c =
    let from = ap (λ (p : Planned). p.from) c.plan.view_is ∙ c.requires.from ∙ sym c.self.view_is in
    rw c.as_slice.ensures
    (can_take c.self.inside.year c.self.inside.text c.plan.inside.splice.inserted c.plan.inside.text c.self.inside.loaded c.plan.inside.made c.self.invariant
    (subst (λ (j : Journal). IsMadeFrom j.year j.text c.plan.inside.splice.inserted c.plan.inside.text c.plan.inside.made) from c.plan.invariant))

pub invariant_of-self : goal.invariant_of-self
invariant_of-self c =
    let from = ap (λ (p : Planned). p.from) c.plan.view_is ∙ c.requires.from ∙ sym c.self.view_is in
    c.put_made.ensures c.self.inside.year c.self.inside.text c.plan.inside.text c.self.invariant
    (rw c.as_slice.ensures (subst (λ (j : Journal). IsMadeFrom j.year j.text c.plan.inside.splice.inserted c.plan.inside.text c.plan.inside.made) from c.plan.invariant))

pub returns : goal.returns
returns c =
    let text = ap (λ (p : Planned). p.text) c.plan.view_is in
    let year = ap (λ (j : Journal). j.year) (c.self.view_is ∙ sym c.requires.from) in
    let same = ap (λ (p : Planned). p.same) c.plan.view_is in
    let old = ap (λ (j : Journal). j.revision) c.self.view_is in
    let revision : c.raised-self-inside.result ≡ cond c.args.plan.same c.args.self.now.revision (c.args.self.now.revision + 1) = c.raised-self-inside.ensures ∙ (λ i. cond (same i) (old i) (old i + 1)) in
    λ i. record { text = text i; year = year i; revision = revision i }
