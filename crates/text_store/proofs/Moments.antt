-- How a run of device calls goes on.
use Rattle.std.proofs.Common.{inl, inr, ⊎_elim, ℕ, ◌≤◌, List, arith}
use Rattle.hl_base.specs.Disk.{Elapses, LeavesOnly}
use Rattle.text_store.specs.Rest.{AfterStep, SomeLeft}

module _ {D : Type 0} (moment : D → ℕ) (left_since : D → ℕ → List ℕ → Type 0) where
  -- before the first call
  pub started : (old : D) (P : List ℕ → Type 0) → ((c : List ℕ) → left_since old (moment old) c → P c) → LeavesOnly moment left_since old old P
  started old P here = record { later = omega arith; each = here; before = λ t c le left. inl left }

  -- one call more, after which a crash leaves what has P
  pub goes_on : (old mid new : D) (P may_leave : List ℕ → Type 0) → LeavesOnly moment left_since old mid P → Elapses (moment mid) (moment new) (left_since mid) (left_since new) may_leave
      → ((c : List ℕ) → may_leave c → P c) → LeavesOnly moment left_since old new P
  goes_on old mid new P may_leave so_far time here = record {
    later = omega (arith, so_far.later, time.later);
    each = λ c left. ⊎_elim (so_far.each c) (here c) (time.nothing_else (moment old) c so_far.later left);
    before = λ t c le left. ⊎_elim (so_far.before t c le) (λ now. inr (here c now)) (time.nothing_else t c (omega (arith, le, so_far.later)) left);
  }

  -- one run after another
  pub joined : (old mid new : D) (P Q R : List ℕ → Type 0) → LeavesOnly moment left_since old mid P → LeavesOnly moment left_since mid new Q
      → ((c : List ℕ) → P c → R c) → ((c : List ℕ) → Q c → R c) → LeavesOnly moment left_since old new R
  joined old mid new P Q R first second from_first from_second = record {
    later = omega (arith, first.later, second.later);
    each = λ c left. ⊎_elim (λ before. from_first c (first.each c before)) (from_second c) (second.before (moment old) c first.later left);
    before = λ t c le left.
        ⊎_elim (λ before. ⊎_elim inl (λ p. inr (from_first c p)) (first.before t c le before)) (λ q. inr (from_second c q)) (second.before t c (omega (arith, le, first.later)) left);
  }

  -- a run of which two things are said
  pub both_said : (old new : D) (P R : List ℕ → Type 0) → LeavesOnly moment left_since old new P → LeavesOnly moment left_since old new R → LeavesOnly moment left_since old new (λ c. P c × R c)
  both_said old new P R first second = record {
    later = first.later;
    each = λ c left. (first.each c left, second.each c left);
    before = λ t c le left. ⊎_elim inl (λ p. ⊎_elim inl (λ r. inr (p, r)) (second.before t c le left)) (first.before t c le left);
  }

  -- what a crash leaves over a step comes of what one might have left before it
  pub from_step : (old new : D) (may_leave : D → List ℕ → Type 0) (step : List ℕ → List ℕ → Type 0) → LeavesOnly moment left_since old new (AfterStep step (may_leave old))
      → LeavesOnly moment left_since old new (SomeLeft (may_leave old))
  from_step old new may_leave step run = record {
    later = run.later;
    each = λ c left. let after = run.each c left in (after.0, after.1);
    before = λ t c le left. ⊎_elim inl (λ after. inr (after.0, after.1)) (run.before t c le left);
  }

  -- the same over one run after another
  pub from_before : (old mid new : D) (may_leave : D → List ℕ → Type 0) → ((disk : D) (t : ℕ) (c : List ℕ) → t ≤ moment disk → may_leave disk c → left_since disk t c)
      → LeavesOnly moment left_since old mid (SomeLeft (may_leave old)) → LeavesOnly moment left_since mid new (SomeLeft (may_leave mid))
      → LeavesOnly moment left_since old new (SomeLeft (may_leave old))
  from_before old mid new may_leave counts_now first second =
      joined old mid new (SomeLeft (may_leave old)) (SomeLeft (may_leave mid)) (SomeLeft (may_leave old)) first second (λ c some. some)
      (λ c some. first.each some.0 (counts_now mid (moment old) some.0 first.later some.1))

  -- the same run, of which less is said
  pub weakened : (old new : D) (P R : List ℕ → Type 0) → LeavesOnly moment left_since old new P → ((c : List ℕ) → P c → R c) → LeavesOnly moment left_since old new R
  weakened old new P R run from = record {
    later = run.later;
    each = λ c left. from c (run.each c left);
    before = λ t c le left. ⊎_elim inl (λ p. inr (from c p)) (run.before t c le left);
  }
