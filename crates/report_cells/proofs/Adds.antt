-- Takings that come one after another, and in parts.
use Rattle.std.proofs.Common.{◌≡◌, ℕ, ◌+◌, ◌<◌, Bool, true, false, cond, List, [], ◌∷◌, ◌++◌, length, map, take, get_or, Option, refl, sym, ap, subst, ◌∙◌}
use Rattle.std.specs.List.{flat_map}
use Rattle.std.proofs.lemmas.Grind.{flat_map-append}
use Rattle.std.proofs.lemmas.List.{append_assoc, append-nil, map-append, take_more}
use Rattle.hl_time.specs.declared.spans.Span.{Span}
use Rattle.report_cells.specs.Taken.{Taken}
use Rattle.report_cells.specs.Follows.{Follow}
use Rattle.report_cells.specs.Kept.{KeptRows, HasFewPlaces, row_with}
use Rattle.report_cells.specs.Places.{place}
use Rattle.report_cells.specs.Turned.{Turnovers, turned_with}
use Rattle.report_cells.specs.Gathered.{Gathered, full_with, gathered_with, gathered_from, not_begun, Gathers, IsBegun, Adds}
use Rattle.report_cells.specs.declared.reach.Reach.{Reach}
use Rattle.report_cells.proofs.Walking.{few-push}

from-append : (g : Gathered) (xs ys : List Taken) → gathered_from g (xs ++ ys) ≡ gathered_from (gathered_from g xs) ys
from-append g [] ys = refl
from-append g (x ∷ xs) ys = from-append (gathered_with x g) xs ys

pub gathers_none : (columns : List Span) (reach : Reach) → Follow columns → Gathers columns reach [] (not_begun columns reach)
gathers_none columns reach follow = record { is = refl; few = tt; follow = follow }

-- one taking
pub adds_one : (g new : Gathered) (t : Taken) → HasFewPlaces t.amount → new ≡ gathered_with t g → Adds g (t ∷ []) new
adds_one g new t few is = λ columns reach ts h. record {
  is = is ∙ ap (gathered_with t) h.is ∙ sym (from-append (not_begun columns reach) ts (t ∷ []));
  few = few-push ts t h.few few;
  follow = h.follow;
}

-- none
pub adds_none : (g : Gathered) → Adds g [] g
adds_none g = λ columns reach ts h. subst (λ (all : List Taken). Gathers columns reach all g) (sym (append-nil ts)) h

-- some, and then others
pub adds_both : (g h k : Gathered) (xs ys : List Taken) → Adds g xs h → Adds h ys k → Adds g (xs ++ ys) k
adds_both g h k xs ys first second = λ columns reach ts begun.
    subst (λ (all : List Taken). Gathers columns reach all k) (append_assoc ts xs ys) (second columns reach (ts ++ xs) (first columns reach ts begun))

-- what was begun goes on
pub begun_after : (g h : Gathered) (xs : List Taken) → IsBegun g → Adds g xs h → IsBegun h
begun_after g h xs begun adds = (begun.0, begun.1, begun.2 ++ xs, adds begun.0 begun.1 begun.2 begun.3)

pub begun_of : (columns : List Span) (reach : Reach) (ts : List Taken) (g : Gathered) → Gathers columns reach ts g → IsBegun g
begun_of columns reach ts g h = (columns, reach, ts, h)

-- ---- a taking that was noted

module _ (g : Gathered) (t : Taken) (few : HasFewPlaces t.amount) (turnovers : Turnovers) (full : Bool) (noted : turnovers ≡ turned_with t.amount g.turnovers) (is : full ≡ full_with t g) where
  -- where a symbol's amounts are too large, rows stay
  pub adds_full : full ≡ true → Adds g (t ∷ []) (record { rows = g.rows; turnovers = turnovers; full = full; columns = g.columns; reach = g.reach })
  adds_full reached =
      let same : g.rows ≡ (gathered_with t g).rows = sym (ap (λ (b : Bool). cond b g.rows (row_with (length g.columns) (place g.reach g.columns t.day) t g.rows)) (sym is ∙ reached)) in
      adds_one g (record { rows = g.rows; turnovers = turnovers; full = full; columns = g.columns; reach = g.reach }) t few
      (λ i. record { rows = same i; turnovers = noted i; full = is i; columns = g.columns; reach = g.reach })

  -- else the taking is added to its row
  pub adds_row : full ≡ false → (width : ℕ) (at : Option ℕ) (rows : KeptRows) → width ≡ length g.columns → at ≡ place g.reach g.columns t.day → rows ≡ row_with width at t g.rows
      → Adds g (t ∷ []) (record { rows = rows; turnovers = turnovers; full = full; columns = g.columns; reach = g.reach })
  adds_row room width at rows wide went added =
      let same : rows ≡ (gathered_with t g).rows =
      added ∙ ap (λ (n : ℕ). row_with n at t g.rows) wide ∙ ap (λ (o : Option ℕ). row_with (length g.columns) o t g.rows) went
      ∙ sym (ap (λ (b : Bool). cond b g.rows (row_with (length g.columns) (place g.reach g.columns t.day) t g.rows)) (sym is ∙ room)) in
      adds_one g (record { rows = rows; turnovers = turnovers; full = full; columns = g.columns; reach = g.reach }) t few
      (λ i. record { rows = same i; turnovers = noted i; full = is i; columns = g.columns; reach = g.reach })

-- ---- loops over what takings are made of

module _ {X : Type 0} (f : X → List Taken) where
  more_of : (xs : List X) (i : ℕ) (x : X) → i < length xs → x ≡ get_or xs i x → flat_map f (take (i + 1) xs) ≡ flat_map f (take i xs) ++ f x
  more_of xs i x within read =
      ap (flat_map f) (take_more xs i x within ∙ ap (λ (y : X). take i xs ++ y ∷ []) (sym read))
      ∙ flat_map-append f (take i xs) (x ∷ []) ∙ ap (λ (ys : List Taken). flat_map f (take i xs) ++ ys) (append-nil (f x))

  -- one more
  pub adds_next : (xs : List X) (i : ℕ) (x : X) (g h k : Gathered) → i < length xs → x ≡ get_or xs i x → Adds g (flat_map f (take i xs)) h → Adds h (f x) k → Adds g (flat_map f (take (i + 1) xs)) k
  adds_next xs i x g h k within read first second =
      subst (λ (all : List Taken). Adds g all k) (sym (more_of xs i x within read)) (adds_both g h k (flat_map f (take i xs)) (f x) first second)

-- one more, each item being one taking
pub adds_mapped : {X : Type 0} (f : X → Taken) (xs : List X) (i : ℕ) (x : X) (g h k : Gathered) → i < length xs → x ≡ get_or xs i x → Adds g (map f (take i xs)) h → Adds h (f x ∷ []) k → Adds g (map f (take (i + 1) xs)) k
adds_mapped f xs i x g h k within read first second =
    let more : map f (take (i + 1) xs) ≡ map f (take i xs) ++ f x ∷ [] =
    ap (map f) (take_more xs i x within ∙ ap (λ y. take i xs ++ y ∷ []) (sym read)) ∙ map-append f (take i xs) (x ∷ []) in
    subst (λ (all : List Taken). Adds g all k) (sym more) (adds_both g h k (map f (take i xs)) (f x ∷ []) first second)
