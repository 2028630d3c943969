-- How what a crash leaves of two disks goes on.
use Rattle.std.proofs.Common.{inl, inr, ℕ, ◌≤◌, List, [], ◌∷◌, ◌++◌, Bool, true, false, IsTrue, refl, sym, subst}
use Rattle.hl_base.specs.declared.disk.Disk.{Ghosts}
use Rattle.hl_base.specs.Disk.{LeavesOnly}
use Rattle.text_store.specs.Stores.{placed, Tell, Leaves, Moves, Passes, Throughout}
use Rattle.text_store.proofs.Moments.{weakened}

-- two files in their places have P
abbrev pub Beside : Bool → (List ℕ → List ℕ → Type 0) → List ℕ → List ℕ → Type 0
Beside true P file beside = P beside file
Beside false P file beside = P file beside

module _ {D : Type 0} (g : Ghosts D) where
  pub leaves_of : (in_second : Bool) (live spare : D) (A B : List ℕ → Type 0) (P : List ℕ → List ℕ → Type 0)
      → ((c : List ℕ) → g.may_leave live c → A c) → ((c : List ℕ) → g.may_leave spare c → B c)
      → ((file beside : List ℕ) → A file → B beside → Beside in_second P file beside) → Leaves g (placed in_second live spare) P
  leaves_of true live spare A B P from_live from_spare both first second of_first of_second = both second first (from_live second of_second) (from_spare first of_first)
  leaves_of false live spare A B P from_live from_spare both first second of_first of_second = both first second (from_live first of_first) (from_spare second of_second)

  pub tell_live : (in_second : Bool) (live spare : D) → Tell g (placed in_second live spare) → IsTrue (g.tells_crashes live)
  tell_live true live spare tell = tell.1
  tell_live false live spare tell = tell.0

  pub tell_spare : (in_second : Bool) (live spare : D) → Tell g (placed in_second live spare) → IsTrue (g.tells_crashes spare)
  tell_spare true live spare tell = tell.0
  tell_spare false live spare tell = tell.1

  -- the half in use moves
  pub moves_live : (in_second : Bool) (live next spare : D) (A B : List ℕ → Type 0) (P : List ℕ → List ℕ → Type 0)
      → LeavesOnly g.moment g.left_since live next A → ((c : List ℕ) → g.may_leave spare c → B c)
      → ((file beside : List ℕ) → A file → B beside → Beside in_second P file beside) → Moves g (placed in_second live spare) (placed in_second next spare) P
  moves_live true live next spare A B P run from_spare both =
      inr (refl, weakened g.moment g.left_since live next A _ run (λ file a beside left. both file beside a (from_spare beside left)))
  moves_live false live next spare A B P run from_spare both =
      inl (refl, weakened g.moment g.left_since live next A _ run (λ file a beside left. both file beside a (from_spare beside left)))

  -- the other file moves
  pub moves_spare : (in_second : Bool) (live spare next : D) (A B : List ℕ → Type 0) (P : List ℕ → List ℕ → Type 0)
      → LeavesOnly g.moment g.left_since spare next B → ((c : List ℕ) → g.may_leave live c → A c)
      → ((file beside : List ℕ) → A file → B beside → Beside in_second P file beside) → Moves g (placed in_second live spare) (placed in_second live next) P
  moves_spare true live spare next A B P run from_live both =
      inl (refl, weakened g.moment g.left_since spare next B _ run (λ beside b file left. both file beside (from_live file left) b))
  moves_spare false live spare next A B P run from_live both =
      inr (refl, weakened g.moment g.left_since spare next B _ run (λ beside b file left. both file beside (from_live file left) b))

  -- nothing moves
  pub stays : (pair : D × D) (P : List ℕ → List ℕ → Type 0) → Leaves g pair P → Throughout g pair pair P
  stays pair P leaves = record { states = []; passes = (refl, leaves) }

  module _ (counts_now : (disk : D) (t : ℕ) (c : List ℕ) → t ≤ g.moment disk → g.may_leave disk c → g.left_since disk t c) where
    pub left_after : (old new : D × D) (P : List ℕ → List ℕ → Type 0) → Moves g old new P → Leaves g new P
    left_after old new P (inl first_moves) first second of_first of_second =
        let run = first_moves.1 in
        run.each first (counts_now new.0 (g.moment old.0) first run.later of_first) second
        (subst (λ (d : D). g.may_leave d second) (sym first_moves.0) of_second)
    left_after old new P (inr second_moves) first second of_first of_second =
        let run = second_moves.1 in
        run.each second (counts_now new.1 (g.moment old.1) second run.later of_second) first
        (subst (λ (d : D). g.may_leave d first) (sym second_moves.0) of_first)

    -- one disk moves, once
    pub once : (old new : D × D) (P : List ℕ → List ℕ → Type 0) → Moves g old new P → Throughout g old new P
    once old new P moves = record { states = new ∷ []; passes = (moves, (refl, left_after old new P moves)) }

  -- one way after another
  pub then_on : (old mid new : D × D) (P : List ℕ → List ℕ → Type 0) → Throughout g old mid P → Throughout g mid new P → Throughout g old new P
  then_on old mid new P first second = record { states = first.states ++ second.states; passes = on old first.states first.passes }
    where
      on : (old : D × D) (states : List (D × D)) → Passes g old states mid P → Passes g old (states ++ second.states) new P
      on old [] passes = subst (λ (d : D × D). Passes g d second.states new P) (sym passes.0) second.passes
      on old (next ∷ states) passes = (passes.0, on next states passes.1)

  -- the same way, of which less is said
  pub less_said : (old new : D × D) (P R : List ℕ → List ℕ → Type 0) → ((first second : List ℕ) → P first second → R first second) → Throughout g old new P → Throughout g old new R
  less_said old new P R from run = record { states = run.states; passes = on old run.states run.passes }
    where
      moved : (old new : D × D) → Moves g old new P → Moves g old new R
      moved old new (inl first_moves) = inl (first_moves.0, weakened g.moment g.left_since old.0 new.0 _ _ first_moves.1 (λ first p second left. from first second (p second left)))
      moved old new (inr second_moves) = inr (second_moves.0, weakened g.moment g.left_since old.1 new.1 _ _ second_moves.1 (λ second p first left. from first second (p first left)))

      on : (old : D × D) (states : List (D × D)) → Passes g old states new P → Passes g old states new R
      on old [] passes = (passes.0, λ first second of_first of_second. from first second (passes.1 first second of_first of_second))
      on old (next ∷ states) passes = (moved old next passes.0, on next states passes.1)
