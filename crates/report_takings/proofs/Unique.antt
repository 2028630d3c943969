-- A span is split in one way.
use Rattle.std.proofs.Common.{◌≡◌, ℕ, zero, suc, ◌+◌, ◌-◌, ◌<◌, ◌≤◌, inl, inr, List, length, sym, ap, ◌∙◌, arith}
use Rattle.std.proofs.lemmas.Bool.{cases_lt}
use Rattle.std.proofs.lemmas.List.{ext_get_or}
use Rattle.hl_time.specs.Split.{begins, part_at, IsInterval, IsSplit}
use Rattle.hl_time.specs.Units.{unit_start}
use Rattle.hl_time.specs.declared.spans.Interval.{Interval}
use Rattle.hl_time.specs.declared.spans.Span.{Span}
use Rattle.hl_time.proofs.UnitLaws.{unit_start_mono}
use Rattle.report_cells.specs.Follows.{Follow}
use Rattle.report_takings.proofs.Following.{split_follows}

-- of columns that follow one another a later one ends no earlier
ends_rise : (parts : List Span) → Follow parts → (at more : ℕ) → at + more < length parts → (part_at parts at).end ≤ (part_at parts (at + more)).end
ends_rise parts follow at zero below = let here : at + 0 ≡ at = omega arith in omega (arith, ap (λ n. (part_at parts n).end) here)
ends_rise parts follow at (suc more) below =
    let next : at + suc more ≡ at + more + 1 = omega arith in
    omega (arith, ap (λ n. (part_at parts n).end) next, ends_rise parts follow at more (omega arith), follow.rising (at + more) (omega arith))

module _ (span : Span) (interval : Interval) where
  same_index : (i j : ℕ) → unit_start interval.unit i ≡ unit_start interval.unit j → i ≡ j
  same_index i j e =
      elim (cases_lt i j) [
        | inl below ↦ absurd (omega (arith, e, unit_start_mono interval.unit i j (omega arith)))
        | inr above ↦ omega (arith, e, unit_start_mono interval.unit j i above)
      ]

  -- where it begins determines an interval
  same_interval : (p q : Span) → IsInterval interval p → IsInterval interval q → p.from ≡ q.from → p ≡ q
  same_interval p q x y e =
      let index : x.0 ≡ y.0 = same_index x.0 y.0 (sym x.1 ∙ e ∙ y.1) in
      let ends : p.end ≡ q.end = x.2 ∙ ap (λ n. begins interval.unit (n + interval.n)) index ∙ sym y.2 in
      λ k. record { from = e k; end = ends k }

  same_at : (a b : List Span) → IsSplit span interval a → IsSplit span interval b → (at : ℕ) → at < length a → at < length b → part_at a at ≡ part_at b at
  same_at a b one two zero in_a in_b = same_interval (part_at a 0) (part_at b 0) (one.whole 0 in_a) (two.whole 0 in_b) (one.first ∙ sym two.first)
  same_at a b one two (suc at) in_a in_b =
      let next : at + 1 ≡ suc at = omega arith in
      let before = same_at a b one two at (omega arith) (omega arith) in
      same_interval (part_at a (suc at)) (part_at b (suc at)) (one.whole (suc at) in_a) (two.whole (suc at) in_b)
      (ap (λ n. (part_at a n).from) (sym next) ∙ sym (one.joined at (omega arith)) ∙ ap (λ (s : Span). s.end) before ∙ two.joined at (omega arith) ∙ ap (λ n. (part_at b n).from) next)

  not_shorter : (a b : List Span) → IsSplit span interval a → IsSplit span interval b → length b ≤ length a
  not_shorter a b one two =
      elim (cases_lt (length a) (length b)) [
        | inl below ↦
            (let last = length a - 1 in
            let more = length b - 2 - last in
            let any : 0 < length a = one.some in
            let seam : (part_at b (last + more)).end ≡ (part_at b (last + more + 1)).from = two.joined (last + more) (omega arith) in
            let there : last + more + 1 ≡ length b - 1 = omega arith in
            absurd (omega (arith, one.last.1, ap (λ (s : Span). s.end) (same_at a b one two last (omega arith) (omega arith)), ends_rise b (split_follows span interval b two) last more (omega arith), seam, ap (λ n. (part_at b n).from) there, two.last.0)))
        | inr above ↦ above
      ]

  pub split_once : (a b : List Span) → IsSplit span interval a → IsSplit span interval b → a ≡ b
  split_once a b one two =
      let same : length a ≡ length b = omega (arith, not_shorter a b one two, not_shorter b a two one) in
      ext_get_or (record { from = 0; end = 0 }) a b same (λ at below. same_at a b one two at below (omega (arith, same)))
