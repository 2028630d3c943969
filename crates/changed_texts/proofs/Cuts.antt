-- Where a piece of some lines lies, and what the lines are cut into when another piece stands in its place.
use Rattle.std.proofs.Common.{ℕ, zero, suc, ◌≡◌, ◌+◌, ◌<◌, ◌≤◌, Bool, true, false, cond, List, [], ◌∷◌, ◌++◌, length, take, drop, map, Option, Some, None, refl, sym, ap, subst, ◌∙◌, arith, length-append, take-append-drop}
use Rattle.std.specs.Prelude.{option_map}
use Rattle.std.specs.List.{concat, prefix_len, slice_get, take_while, AllByRecursion}
use Rattle.std.proofs.lemmas.List.{length-take-le, take-append-le}
use Rattle.std.proofs.Math.Seq.{take-append_seam}
use Rattle.std.proofs.lemmas.List.Folds.{length-prefix_len}
use Rattle.std.proofs.lemmas.List.Sums.{prefix_len-le-length}
use Rattle.hl_base.specs.Items.{closes_block, cut_from, is_indented, is_remark, kind_of, lines_more, lines_to_close, opens_block, begins_entry}
use Rattle.hl_base.specs.declared.items.Kind.{Kind}
use Rattle.hl_base.specs.declared.items.Kind.TheVariants as kinds
use Rattle.hl_base.specs.declared.items.Piece.{Piece}
use Rattle.moved_lines.specs.Moving.{moved_number, moved_piece}
use Rattle.moved_lines.specs.declared.shift.Offset.{Offset}
use Rattle.moved_lines.specs.declared.shift.Shift.{Shift}

-- ---- lines that begin a piece

-- Neither a gap nor an entry, a directive or stray lines go on with the line.
pub record BeginsAnew (l : List ℕ) : Type 0 where
  pub remark : is_remark l ≡ false
  pub indented : is_indented l ≡ false

by_kind : (a b c d : Bool) → (let k : Kind = cond a kinds.Block (cond b kinds.Gap (cond c kinds.Stray (cond d kinds.Entry kinds.Head))) in k) ≡ kinds.Entry → (b ≡ false) × (c ≡ false)
by_kind true b c d h = absurd (let never : ⊥ = cc in never)
by_kind false true c d h = absurd (let never : ⊥ = cc in never)
by_kind false false true d h = absurd (let never : ⊥ = cc in never)
by_kind false false false d h = (refl, refl)

pub entry_begins : (l : List ℕ) → kind_of l ≡ kinds.Entry → BeginsAnew l
entry_begins l h =
    let both = by_kind (opens_block l) (is_remark l) (is_indented l) (begins_entry l) h in
    record { remark = both.0; indented = both.1 }

-- ---- how many lines a piece takes

-- A run that ends within some lines ends there, whatever stands behind them.
run_inside : (p : List ℕ → Bool) (pre ys zs : List (List ℕ)) → prefix_len p (pre ++ ys) < length pre → prefix_len p (pre ++ zs) ≡ prefix_len p (pre ++ ys)
run_inside p [] ys zs h = absurd (omega arith)
run_inside p (l ∷ ls) ys zs h = by (p l) h (run_inside p ls ys zs)
  where
    by : (t : Bool) → cond t (1 + prefix_len p (ls ++ ys)) 0 < suc (length ls) → (prefix_len p (ls ++ ys) < length ls → prefix_len p (ls ++ zs) ≡ prefix_len p (ls ++ ys))
        → cond t (1 + prefix_len p (ls ++ zs)) 0 ≡ cond t (1 + prefix_len p (ls ++ ys)) 0
    by true k f = ap (λ (n : ℕ). 1 + n) (f (omega (arith, k)))
    by false k f = refl

-- One that ends at their end ends there too, where what stands behind them doesn't go on with it.
run_stops : (p : List ℕ → Bool) (pre ys zs : List (List ℕ)) → prefix_len p (pre ++ ys) ≤ length pre → prefix_len p zs ≡ 0 → prefix_len p (pre ++ zs) ≡ prefix_len p (pre ++ ys)
run_stops p [] ys zs h e = omega (arith, h, e)
run_stops p (l ∷ ls) ys zs h e = by (p l) h (λ k. run_stops p ls ys zs k e)
  where
    by : (t : Bool) → cond t (1 + prefix_len p (ls ++ ys)) 0 ≤ suc (length ls) → (prefix_len p (ls ++ ys) ≤ length ls → prefix_len p (ls ++ zs) ≡ prefix_len p (ls ++ ys))
        → cond t (1 + prefix_len p (ls ++ zs)) 0 ≡ cond t (1 + prefix_len p (ls ++ ys)) 0
    by true k f = ap (λ (n : ℕ). 1 + n) (f (omega (arith, k)))
    by false k f = refl

runs_inside : (p : List ℕ → Bool) (pre ys zs : List (List ℕ)) → length (take_while p (pre ++ ys)) < length pre → length (take_while p (pre ++ zs)) ≡ length (take_while p (pre ++ ys))
runs_inside p pre ys zs h =
    length-prefix_len p (pre ++ zs) ∙ run_inside p pre ys zs (omega (arith, h, length-prefix_len p (pre ++ ys))) ∙ sym (length-prefix_len p (pre ++ ys))

runs_stop : (p : List ℕ → Bool) (pre ys zs : List (List ℕ)) → length (take_while p (pre ++ ys)) ≤ length pre → prefix_len p zs ≡ 0 → length (take_while p (pre ++ zs)) ≡ length (take_while p (pre ++ ys))
runs_stop p pre ys zs h e =
    length-prefix_len p (pre ++ zs) ∙ run_stops p pre ys zs (omega (arith, h, length-prefix_len p (pre ++ ys))) e ∙ sym (length-prefix_len p (pre ++ ys))

close_inside : (pre ys zs : List (List ℕ)) → lines_to_close (pre ++ ys) < length pre → lines_to_close (pre ++ zs) ≡ lines_to_close (pre ++ ys)
close_inside [] ys zs h = absurd (omega arith)
close_inside (l ∷ ls) ys zs h = by (closes_block l) h (close_inside ls ys zs)
  where
    by : (t : Bool) → cond t 1 (lines_to_close (ls ++ ys) + 1) < suc (length ls) → (lines_to_close (ls ++ ys) < length ls → lines_to_close (ls ++ zs) ≡ lines_to_close (ls ++ ys))
        → cond t 1 (lines_to_close (ls ++ zs) + 1) ≡ cond t 1 (lines_to_close (ls ++ ys) + 1)
    by true k f = refl
    by false k f = ap (λ (n : ℕ). n + 1) (f (omega (arith, k)))

close_none : (t : Bool) (n : ℕ) → cond t 1 (n + 1) ≤ 0 → ⊥
close_none true n h = omega arith
close_none false n h = omega arith

-- a block that ends before another line is closed
close_stops : (pre : List (List ℕ)) (y : List ℕ) (ys zs : List (List ℕ)) → lines_to_close (pre ++ y ∷ ys) ≤ length pre → lines_to_close (pre ++ zs) ≡ lines_to_close (pre ++ y ∷ ys)
close_stops [] y ys zs h = absurd (close_none (closes_block y) (lines_to_close ys) h)
close_stops (l ∷ ls) y ys zs h = by (closes_block l) h (close_stops ls y ys zs)
  where
    by : (t : Bool) → cond t 1 (lines_to_close (ls ++ y ∷ ys) + 1) ≤ suc (length ls) → (lines_to_close (ls ++ y ∷ ys) ≤ length ls → lines_to_close (ls ++ zs) ≡ lines_to_close (ls ++ y ∷ ys))
        → cond t 1 (lines_to_close (ls ++ zs) + 1) ≡ cond t 1 (lines_to_close (ls ++ y ∷ ys) + 1)
    by true k f = refl
    by false k f = ap (λ (n : ℕ). n + 1) (f (omega (arith, k)))

-- some lines don't go on with a piece of a kind, if there is one, that ends before them; a block is closed then
abbrev pub Stops : Option Kind → List (List ℕ) → Type 0
Stops None zs = Unit {0}
Stops (Some kinds.Block) zs = Unit {0}
Stops (Some kinds.Gap) zs = prefix_len is_remark zs ≡ 0
Stops (Some kinds.Entry) zs = prefix_len is_indented zs ≡ 0
Stops (Some kinds.Head) zs = prefix_len is_indented zs ≡ 0
Stops (Some kinds.Stray) zs = prefix_len is_indented zs ≡ 0

pub none_first : (p : List ℕ → Bool) (z : List ℕ) (zs : List (List ℕ)) → p z ≡ false → prefix_len p (z ∷ zs) ≡ 0
none_first p z zs e = ap (λ (t : Bool). cond t (1 + prefix_len p zs) 0) e

pub anew_stops : (before : Option Kind) (z : List ℕ) (zs : List (List ℕ)) → BeginsAnew z → Stops before (z ∷ zs)
anew_stops None z zs a = tt
anew_stops (Some kinds.Block) z zs a = tt
anew_stops (Some kinds.Gap) z zs a = none_first is_remark z zs a.remark
anew_stops (Some kinds.Entry) z zs a = none_first is_indented z zs a.indented
anew_stops (Some kinds.Head) z zs a = none_first is_indented z zs a.indented
anew_stops (Some kinds.Stray) z zs a = none_first is_indented z zs a.indented

-- a piece that ends before a line ends there before any lines that don't go on with it
more_stops : (k : Kind) (pre : List (List ℕ)) (y : List ℕ) (ys zs : List (List ℕ)) → lines_more k (pre ++ y ∷ ys) ≤ length pre → Stops (Some k) zs → lines_more k (pre ++ zs) ≡ lines_more k (pre ++ y ∷ ys)
more_stops kinds.Gap pre y ys zs h s = runs_stop is_remark pre (y ∷ ys) zs h s
more_stops kinds.Block pre y ys zs h s = close_stops pre y ys zs h
more_stops kinds.Entry pre y ys zs h s = runs_stop is_indented pre (y ∷ ys) zs h s
more_stops kinds.Head pre y ys zs h s = runs_stop is_indented pre (y ∷ ys) zs h s
more_stops kinds.Stray pre y ys zs h s = runs_stop is_indented pre (y ∷ ys) zs h s

-- and one that ends earlier ends there before any lines
pub more_inside : (k : Kind) (pre ys zs : List (List ℕ)) → lines_more k (pre ++ ys) < length pre → lines_more k (pre ++ zs) ≡ lines_more k (pre ++ ys)
more_inside kinds.Gap pre ys zs h = runs_inside is_remark pre ys zs h
more_inside kinds.Block pre ys zs h = close_inside pre ys zs h
more_inside kinds.Entry pre ys zs h = runs_inside is_indented pre ys zs h
more_inside kinds.Head pre ys zs h = runs_inside is_indented pre ys zs h
more_inside kinds.Stray pre ys zs h = runs_inside is_indented pre ys zs h

run_bound : (p : List ℕ → Bool) (ls : List (List ℕ)) → length (take_while p ls) ≤ length ls
run_bound p ls = omega (arith, length-prefix_len p ls, prefix_len-le-length p ls)

close_bound : (ls : List (List ℕ)) → lines_to_close ls ≤ length ls
close_bound [] = omega arith
close_bound (l ∷ ls) = by (closes_block l) (close_bound ls)
  where
    by : (t : Bool) → lines_to_close ls ≤ length ls → cond t 1 (lines_to_close ls + 1) ≤ suc (length ls)
    by true h = omega arith
    by false h = omega arith

pub more_bound : (k : Kind) (ls : List (List ℕ)) → lines_more k ls ≤ length ls
more_bound kinds.Gap ls = run_bound is_remark ls
more_bound kinds.Block ls = close_bound ls
more_bound kinds.Entry ls = run_bound is_indented ls
more_bound kinds.Head ls = run_bound is_indented ls
more_bound kinds.Stray ls = run_bound is_indented ls

-- ---- where a piece lies

abbrev pub piece : ℕ → ℕ → ℕ → Kind → Piece
piece at len line kind = record { at = at; len = len; line = line; kind = kind }

-- it ends where others begin
abbrev pub EndsBy : ℕ → Piece → Type 0
EndsBy most p = p.at + p.len ≤ most

-- the kind of the piece before the n-th, if there is one
abbrev pub kind_before : ℕ → List Piece → Option Kind
kind_before zero ps = None
kind_before (suc n) ps = option_map (λ (p : Piece). p.kind) (slice_get ps n)

-- The n-th piece of some lines, of which the first few belong to a piece before them: the lines before it, its first
-- line, its further ones, and the lines behind it.
pub record Place (n taken at line : ℕ) (ls : List (List ℕ)) : Type 0 where
  pub pre : List (List ℕ)
  pub first : List ℕ
  pub own : List (List ℕ)
  pub post : List (List ℕ)
  pub is : ls ≡ pre ++ first ∷ (own ++ post)
  pub past : taken + n ≤ length pre
  pub takes : lines_more (kind_of first) (own ++ post) ≡ length own
  pub it : slice_get (cut_from taken at line ls) n ≡ Some (piece (at + length (concat pre)) (length (concat (first ∷ own))) (line + length pre) (kind_of first))
  pub ends : AllByRecursion (EndsBy (at + length (concat pre))) (take n (cut_from taken at line ls))
  -- with other lines behind those before it, the pieces before it stay
  pub front : (zs : List (List ℕ)) → Stops (kind_before n (cut_from taken at line ls)) zs
      → cut_from taken at line (pre ++ zs) ≡ take n (cut_from taken at line ls) ++ cut_from 0 (at + length (concat pre)) (line + length pre) zs

pub same : (n : ℕ) → n ≡ n + 0
same n = omega arith

pub places : (a x y z : ℕ) → z ≡ x + y → a + x + y ≡ a + z
places a x y z e = omega (arith, e)

pub numbers : (a n : ℕ) → a + 1 + n ≡ a + suc n
numbers a n = omega arith

-- the bytes before a place, with one line more
pub bytes_more : (at : ℕ) (l : List ℕ) (pre : List (List ℕ)) → at + length l + length (concat pre) ≡ at + length (concat (l ∷ pre))
bytes_more at l pre = places at (length l) (length (concat pre)) (length (concat (l ∷ pre))) (length-append l (concat pre))

all_end : (a b : ℕ) (ps : List Piece) → a ≡ b → AllByRecursion (EndsBy a) ps → AllByRecursion (EndsBy b) ps
all_end a b ps e h = subst (λ (n : ℕ). AllByRecursion (EndsBy n) ps) e h

concat_front : (n : ℕ) (ls : List (List ℕ)) → length (concat (take n ls)) ≤ length (concat ls)
concat_front zero ls = omega arith
concat_front (suc n) [] = omega arith
concat_front (suc n) (l ∷ ls) = omega (arith, concat_front n ls, length-append l (concat (take n ls)), length-append l (concat ls))

-- the lines that are passed over before it, with one more
further : (n taken at line : ℕ) (l : List ℕ) (ls : List (List ℕ)) → Place n taken (at + length l) (line + 1) ls → Place n (suc taken) at line (l ∷ ls)
further n taken at line l ls c = record {
  pre = l ∷ c.pre;
  first = c.first;
  own = c.own;
  post = c.post;
  is = ap (λ (ks : List (List ℕ)). l ∷ ks) c.is;
  past = (let past = c.past in omega (arith, past));
  takes = c.takes;
  it = c.it ∙ (λ i. Some (piece (bytes_more at l c.pre i) (length (concat (c.first ∷ c.own))) (numbers line (length c.pre) i) (kind_of c.first)));
  ends = all_end (at + length l + length (concat c.pre)) (at + length (concat (l ∷ c.pre))) (take n (cut_from taken (at + length l) (line + 1) ls)) (bytes_more at l c.pre) c.ends;
  front = λ zs s. c.front zs s ∙ (λ i. take n (cut_from taken (at + length l) (line + 1) ls) ++ cut_from 0 (bytes_more at l c.pre i) (numbers line (length c.pre) i) zs);
}

-- the piece that begins with the first line
here : (at line : ℕ) (l : List ℕ) (ls : List (List ℕ)) → Place zero zero at line (l ∷ ls)
here at line l ls =
    let n = lines_more (kind_of l) ls in
    let whole : take n ls ++ drop n ls ≡ ls = take-append-drop n ls in
    record {
      pre = [];
      first = l;
      own = take n ls;
      post = drop n ls;
      is = ap (λ (ks : List (List ℕ)). l ∷ ks) (sym whole);
      past = omega arith;
      takes = ap (lines_more (kind_of l)) whole ∙ sym (length-take-le n ls (more_bound (kind_of l) ls));
      it = λ i. Some (piece (same at i) (sym (length-append l (concat (take n ls))) i) (same line i) (kind_of l));
      ends = tt;
      front = λ zs s. λ i. cut_from 0 (same at i) (same line i) zs;
    }

-- What the piece that begins with a line takes, where the n-th piece behind it ends the lines that stay.
same_more : (n : ℕ) (one : Piece) (rest : List Piece) (pre : List (List ℕ)) (y : List ℕ) (ys zs : List (List ℕ)) → lines_more one.kind (pre ++ y ∷ ys) + n ≤ length pre → Stops (kind_before (suc n) (one ∷ rest)) zs
    → lines_more one.kind (pre ++ zs) ≡ lines_more one.kind (pre ++ y ∷ ys)
same_more zero one rest pre y ys zs h s = more_stops one.kind pre y ys zs (omega (arith, h)) s
same_more (suc n) one rest pre y ys zs h s = more_inside one.kind pre (y ∷ ys) zs (omega (arith, h))

stops_within : (n : ℕ) (one : Piece) (rest : List Piece) (zs : List (List ℕ)) → Stops (kind_before (suc n) (one ∷ rest)) zs → Stops (kind_before n rest) zs
stops_within zero one rest zs s = tt
stops_within (suc n) one rest zs s = s

-- a piece behind the one that begins with the first line
behind : (n at line : ℕ) (l : List ℕ) (ls : List (List ℕ)) → Place n (lines_more (kind_of l) ls) (at + length l) (line + 1) ls → Place (suc n) zero at line (l ∷ ls)
behind n at line l ls c =
    let k = kind_of l in
    let taken = lines_more k ls in
    let rest = cut_from taken (at + length l) (line + 1) ls in
    let past = c.past in
    let known : lines_more k ls ≡ lines_more k (c.pre ++ c.first ∷ (c.own ++ c.post)) = ap (lines_more k) c.is in
    let few : lines_more k (c.pre ++ c.first ∷ (c.own ++ c.post)) + n ≤ length c.pre = omega (arith, past, known) in
    let short : taken ≤ length c.pre = omega (arith, past) in
    let taken_is : take taken ls ≡ take taken c.pre = ap (take taken) c.is ∙ take-append-le taken c.pre (c.first ∷ (c.own ++ c.post)) short in
    let one = piece at (length l + length (concat (take taken ls))) line k in
    record {
      pre = l ∷ c.pre;
      first = c.first;
      own = c.own;
      post = c.post;
      is = ap (λ (ks : List (List ℕ)). l ∷ ks) c.is;
      past = omega (arith, past);
      takes = c.takes;
      it = c.it ∙ (λ i. Some (piece (bytes_more at l c.pre i) (length (concat (c.first ∷ c.own))) (numbers line (length c.pre) i) (kind_of c.first)));
      ends = (
        omega (arith, concat_front taken c.pre, ap (λ (ks : List (List ℕ)). length (concat ks)) taken_is, length-append l (concat c.pre)),
        all_end (at + length l + length (concat c.pre)) (at + length (concat (l ∷ c.pre))) (take n rest) (bytes_more at l c.pre) c.ends,
      );
      front = λ zs s.
          ap (λ (j : ℕ). piece at (length l + length (concat (take j (c.pre ++ zs)))) line k ∷ cut_from j (at + length l) (line + 1) (c.pre ++ zs))
          (same_more n one rest c.pre c.first (c.own ++ c.post) zs few s ∙ sym known)
          ∙ ap (λ (ks : List (List ℕ)). piece at (length l + length (concat ks)) line k ∷ cut_from taken (at + length l) (line + 1) (c.pre ++ zs))
          (take-append-le taken c.pre zs short ∙ sym taken_is)
          ∙ ap (λ (ps : List Piece). one ∷ ps)
          (c.front zs (stops_within n one rest zs s) ∙ (λ i. take n rest ++ cut_from 0 (bytes_more at l c.pre i) (numbers line (length c.pre) i) zs));
    }

pub find : (n taken at line : ℕ) (ls : List (List ℕ)) → n < length (cut_from taken at line ls) → Place n taken at line ls
find n taken at line [] h = absurd (omega (arith, h))
find n (suc taken) at line (l ∷ ls) h = further n taken at line l ls (find n taken (at + length l) (line + 1) ls h)
find zero zero at line (l ∷ ls) h = here at line l ls
find (suc n) zero at line (l ∷ ls) h = behind n at line l ls (find n (lines_more (kind_of l) ls) (at + length l) (line + 1) ls (omega (arith, h)))

-- ---- a piece and what is behind it

-- lines that a piece has taken are passed over
skip_own : (own post : List (List ℕ)) (at line : ℕ) → cut_from (length own) at line (own ++ post) ≡ cut_from 0 (at + length (concat own)) (line + length own) post
skip_own [] post at line = λ i. cut_from 0 (same at i) (same line i) post
skip_own (l ∷ own) post at line =
    skip_own own post (at + length l) (line + 1) ∙ (λ i. cut_from 0 (bytes_more at l own i) (numbers line (length own) i) post)

pub cut_one : (first : List ℕ) (own post : List (List ℕ)) (at line : ℕ) → lines_more (kind_of first) (own ++ post) ≡ length own
    → cut_from 0 at line (first ∷ (own ++ post)) ≡ piece at (length (concat (first ∷ own))) line (kind_of first) ∷ cut_from 0 (at + length (concat (first ∷ own))) (line + length (first ∷ own)) post
cut_one first own post at line e =
    let k = kind_of first in
    ap (λ (j : ℕ). piece at (length first + length (concat (take j (own ++ post)))) line k ∷ cut_from j (at + length first) (line + 1) (own ++ post)) e
    ∙ ap (λ (ks : List (List ℕ)). piece at (length first + length (concat ks)) line k ∷ cut_from (length own) (at + length first) (line + 1) (own ++ post)) (take-append_seam own post)
    ∙ ap (λ (z : ℕ). piece at z line k ∷ cut_from (length own) (at + length first) (line + 1) (own ++ post)) (sym (length-append first (concat own)))
    ∙ ap (λ (ps : List Piece). piece at (length (concat (first ∷ own))) line k ∷ ps)
    (skip_own own post (at + length first) (line + 1) ∙ (λ i. cut_from 0 (bytes_more at first own i) (numbers line (length own) i) post))

-- no line behind an entry goes on with it
pub next_stops : (p : List ℕ → Bool) (own post : List (List ℕ)) → prefix_len p (own ++ post) ≡ length own → prefix_len p post ≡ 0
next_stops p [] post h = h
next_stops p (l ∷ own) post h = by (p l) h (λ k. next_stops p own post k)
  where
    by : (t : Bool) → cond t (1 + prefix_len p (own ++ post)) 0 ≡ suc (length own) → (prefix_len p (own ++ post) ≡ length own → prefix_len p post ≡ 0) → prefix_len p post ≡ 0
    by true k f = f (omega (arith, k))
    by false k f = absurd (omega (arith, k))

pub all_run : (p : List ℕ → Bool) (own post : List (List ℕ)) → prefix_len p own ≡ length own → prefix_len p post ≡ 0 → prefix_len p (own ++ post) ≡ length own
all_run p [] post h none = none
all_run p (l ∷ own) post h none = by (p l) h (λ k. all_run p own post k none)
  where
    by : (t : Bool) → cond t (1 + prefix_len p own) 0 ≡ suc (length own) → (prefix_len p own ≡ length own → prefix_len p (own ++ post) ≡ length own) → cond t (1 + prefix_len p (own ++ post)) 0 ≡ suc (length own)
    by true k f = let rest = f (omega (arith, k)) in omega (arith, rest)
    by false k f = absurd (omega (arith, k))

no_cons : {X : Type 0} (x : X) (xs : List X) → x ∷ xs ≡ [] → ⊥
no_cons x xs h = cc

pub cut_none : (taken at line : ℕ) (ls : List (List ℕ)) → cut_from taken at line ls ≡ [] → length ls ≤ taken
cut_none taken at line [] h = omega arith
cut_none (suc taken) at line (l ∷ ls) h = omega (arith, cut_none taken (at + length l) (line + 1) ls h)
cut_none zero at line (l ∷ ls) h = absurd (no_cons _ _ h)

-- an entry that stands alone has all its lines, wherever an entry stood
pub entry_takes : (first : List ℕ) (own others post : List (List ℕ)) (one : Piece) → kind_of first ≡ kinds.Entry → cut_from 0 0 1 (first ∷ own) ≡ one ∷ []
    → lines_more kinds.Entry (others ++ post) ≡ length others → lines_more (kind_of first) (own ++ post) ≡ length own
entry_takes first own others post one k alone old =
    let taken = lines_more (kind_of first) own in
    let none : cut_from taken (0 + length first) (1 + 1) own ≡ [] = ap (drop 1) alone in
    let all = cut_none taken (0 + length first) (1 + 1) own none in
    let same_kind : lines_more (kind_of first) own ≡ lines_more kinds.Entry own = ap (λ (j : Kind). lines_more j own) k in
    let whole : prefix_len is_indented own ≡ length own = omega (arith, all, same_kind, length-prefix_len is_indented own, prefix_len-le-length is_indented own) in
    let stops = next_stops is_indented others post (sym (length-prefix_len is_indented (others ++ post)) ∙ old) in
    ap (λ (j : Kind). lines_more j (own ++ post)) k ∙ length-prefix_len is_indented (own ++ post) ∙ all_run is_indented own post whole stops

-- ---- pieces that are moved

kept_number : (by : Shift) (n more : ℕ) → by.removed ≤ n → moved_number by n + more ≡ moved_number by (n + more)
kept_number by n more h = omega (arith, h)

-- lines that begin further on are cut into the same pieces further on
pub cut_moved : (by : Offset) (taken at line : ℕ) (ls : List (List ℕ)) → by.bytes.removed ≤ at → by.lines.removed ≤ line
    → cut_from taken (moved_number by.bytes at) (moved_number by.lines line) ls ≡ map (moved_piece by) (cut_from taken at line ls)
cut_moved by taken at line [] h k = refl
cut_moved by (suc taken) at line (l ∷ ls) h k =
    (λ i. cut_from taken (kept_number by.bytes at (length l) h i) (kept_number by.lines line 1 k i) ls) ∙ cut_moved by taken (at + length l) (line + 1) ls (omega (arith, h)) (omega (arith, k))
cut_moved by zero at line (l ∷ ls) h k =
    let kind = kind_of l in
    let n = lines_more kind ls in
    ap (λ (ps : List Piece). piece (moved_number by.bytes at) (length l + length (concat (take n ls))) (moved_number by.lines line) kind ∷ ps)
    ((λ i. cut_from n (kept_number by.bytes at (length l) h i) (kept_number by.lines line 1 k i) ls) ∙ cut_moved by n (at + length l) (line + 1) ls (omega (arith, h)) (omega (arith, k)))

-- it begins behind so many bytes and lines
abbrev pub BeginsBehind : ℕ → ℕ → Piece → Type 0
BeginsBehind at line p = (at ≤ p.at) × (line ≤ p.line)

pub cut_behind : (taken from start at line : ℕ) (ls : List (List ℕ)) → from ≤ at → start ≤ line → AllByRecursion (BeginsBehind from start) (cut_from taken at line ls)
cut_behind taken from start at line [] h k = tt
cut_behind (suc taken) from start at line (l ∷ ls) h k = cut_behind taken from start (at + length l) (line + 1) ls (omega (arith, h)) (omega (arith, k))
cut_behind zero from start at line (l ∷ ls) h k = ((h, k), cut_behind (lines_more (kind_of l) ls) from start (at + length l) (line + 1) ls (omega (arith, h)) (omega (arith, k)))
