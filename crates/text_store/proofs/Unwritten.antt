-- A disk that is read and brought to rest.
use Rattle.std.proofs.Common.{◌≡◌, ◌∙◌, ◌⊎◌, inl, inr, ℕ, ◌+◌, ◌-◌, ◌<◌, ◌≤◌, List, [], ◌++◌, length, take, drop, sym, ap, arith, length-take, length-drop, length-append, take-append-drop}
use Rattle.std.proofs.lemmas.List.{take_at}
use Rattle.hl_base.proofs.Files.{take_past}
use Rattle.hl_base.specs.declared.disk.Disk.{Ghosts}
use Rattle.hl_base.specs.Disk.{NoMore, Elapses, ReadsAt}
use Rattle.text_store.specs.Rest.{IsReadOn}
use Rattle.text_store.proofs.Moments.{started, goes_on, joined}

module _ {D : Type 0} (g : Ghosts D) where
  -- a first call
  pub one_call : (old new : D) → ((c : List ℕ) → g.left_since old (g.moment old) c → g.may_leave old c) → g.seen new ≡ g.seen old → NoMore (g.may_leave old) (g.may_leave new)
      → Elapses (g.moment old) (g.moment new) (g.left_since old) (g.left_since new) (g.may_leave new)
      → g.reach new ≡ g.reach old → g.tells_crashes new ≡ g.tells_crashes old → g.unfailing_to new ≡ g.unfailing_to old → g.failures old ≤ g.failures new → IsReadOn g old new
  one_call old new now seen no_more time reach tells unfailing later = record {
    seen = seen;
    no_more = no_more;
    any_moment = goes_on g.moment g.left_since old old new (g.may_leave old) (g.may_leave new) (started g.moment g.left_since old (g.may_leave old) now) time no_more;
    reach = reach;
    tells = tells;
    unfailing = unfailing;
    later = later;
  }

  pub call_after : (old mid new : D) → IsReadOn g old mid → IsReadOn g mid new → IsReadOn g old new
  call_after old mid new first second = record {
    seen = second.seen ∙ first.seen;
    no_more = λ c left. first.no_more c (second.no_more c left);
    any_moment = joined g.moment g.left_since old mid new (g.may_leave old) (g.may_leave mid) (g.may_leave old) first.any_moment second.any_moment (λ c p. p) first.no_more;
    reach = second.reach ∙ first.reach;
    tells = second.tells ∙ first.tells;
    unfailing = second.unfailing ∙ first.unfailing;
    later = omega (arith, first.later, second.later);
  }

-- a front of a file, and what a read behind it gives
pub front_more : (file bytes old new : List ℕ) (count : ℕ) → 0 < length old → length bytes ≤ length file → bytes ≡ take (length bytes) file → ReadsAt file (length bytes) count old new
    → (bytes ++ take count new ≡ take (length (bytes ++ take count new)) file) × (length (bytes ++ take count new) ≤ length file)
    × (length (bytes ++ take count new) ≡ length bytes → length file ≤ length (bytes ++ take count new))
front_more file bytes old new count some le front reads =
    let at = length bytes in
    let left = drop at file in
    let size : length left ≡ length file - at = length-drop at file in
    let got : take count new ≡ take count left =
    ap (λ (l : List ℕ). take count l) reads.bytes ∙ take_at (take count left) (drop count old) count (omega (arith, length-take count left, reads.inside)) in
    let long : length (take count new) ≡ count = ap (λ (l : List ℕ). length l) got ∙ (omega (arith, length-take count left, reads.inside)) in
    let total : length (bytes ++ take count new) ≡ at + count = omega (arith, length-append bytes (take count new), long) in (
      (λ i. front i ++ got i) ∙ sym (take_past (take at file) left (at + count) count (omega (arith, length-take at file, le))) ∙ ap (λ (l : List ℕ). take (at + count) l) (take-append-drop at file) ∙ ap (λ (n : ℕ). take n file) (sym total),
      omega (arith, total, reads.inside, size, le),
      λ same. ended (reads.end (omega (arith, same, total))) total,
    )
  where
    ended : (length file ≤ length bytes) ⊎ (old ≡ []) → length (bytes ++ take count new) ≡ length bytes + count → length file ≤ length (bytes ++ take count new)
    ended (inl end) total = omega (arith, end, total)
    ended (inr none) total = absurd (omega (arith, some, ap (λ (l : List ℕ). length l) none))
