-- A walk of an edit.
use Rattle.std.proofs.Common.{◌≡◌, ℕ, ◌+◌, ◌<◌, ◌≤◌, nat_le, zero, suc, Bool, true, List, [], ◌∷◌, ◌++◌, length, slice_get, Some, refl, sym, ap, subst, ◌∙◌, arith}
use Rattle.std.specs.List.{AllByRecursion}
use Rattle.std.specs.List.Sorted.{IsPermutation}
use Rattle.std.proofs.lemmas.Bool.{eq-eqb, false≢true}
use Rattle.std.proofs.lemmas.Bool.Decides.{nat_tests}
use Rattle.hl_base.specs.Counts.{Counts}
use Rattle.book.specs.Bounds.{TurnoverFits}
use Rattle.book.specs.Postings.{postings_of}
use Rattle.book.specs.declared.transaction.Txn.{Txn}
use Rattle.balancing.specs.Solves.{Solves}
use Rattle.kept_turnover.proofs.Ranged.{ranged}
use Rattle.placed_sums.specs.Accounts.{HasSymbols}
use Rattle.reached_entries.specs.Reached.{AreSame}
use Rattle.reached_walk.specs.Closed.{IsClosed}
use Rattle.reached_walk.specs.Spots.{AreOnce, holds}
use Rattle.reached_walk.specs.declared.place.Spot.{Spot}
use Rattle.reached_walk.proofs.Looking.{text-watched}
use Rattle.watchers.specs.Watches.{AreOf, numbered_from}
use Rattle.walked_edits.specs.Causes.{CanNot, CanWalk}
use Rattle.walked_edits.specs.Counting.{nodes_at, nodes_on}
use Rattle.walked_edits.specs.Counting.{ChecksFew as ChecksMost}
use Rattle.walked_edits.specs.Forms.{IsInside, put_forms, spots_of, with_room}
use Rattle.walked_edits.specs.Keeping.{IsKept}
use Rattle.walked_edits.specs.Scenes.{IsEdited, Scene, edit_in, scene}
use Rattle.walked_edits.specs.Walking.{IsTold, IsWalked}
use Rattle.walked_edits.specs.declared.kept.Kept.{Kept}
use Rattle.walked_edits.specs.declared.replaced.Replaced.{Replaced}
use Rattle.walked_edits.specs.declared.walking.Walked.{Walked}
use Rattle.walked_edits.proofs.Begins.{room_size}
use Rattle.walked_edits.proofs.Loading.{solves_size}
use Rattle.book_laws.specs.Reaching.{HasNoPlainReach}
use Rattle.book_laws.specs.Writing.{AreSymbolsOf, symbols_written}
use Rattle.book_laws.proofs.Written.{symbols_before, symbols_behind}
use Rattle.kept_books.specs.Beginning.{BegunBy, IsBegun, IsRenewal, lent, renewed_in, scene_of}
use Rattle.kept_books.specs.Counting.{AsksFew, AsksWritten, ChecksFew}
use Rattle.kept_books.specs.Renewing.{first_of, forms_of, renewed, spots_from}
use Rattle.kept_books.specs.Rewriting.{At, Behind, MayRewrite, Rewrite, edit_by, is_rewritten, rewritten}
use Rattle.kept_books.specs.Walking.{IsWalk}
use Rattle.kept_books.specs.declared.beginning.Begun.{Begun}
use Rattle.kept_books.specs.declared.walk.Walk.{Walk}
use Rattle.kept_books.specs.declared.written.Renewal.{Renewal}
use Rattle.kept_books.proofs.Renewing.{alone_of, first_inside, forms_some, get_form, lent_size, min_is, renewed_is, same_renewed, size_renewed}
use Rattle.kept_books.proofs.Spotting.{holds_from, holds_in, holds_spots, once_spots, some_spots, stand_spots}
use Rattle.kept_books.proofs.Weighing.{weight_of}

le_true : (a b : ℕ) → a ≤ b → nat_le a b ≡ true
le_true a b h = grind (arith, nat_tests)

-- ---- what a walk begins with

pub begun_is : (written : List Txn) (r : Rewrite) (x : Renewal) (b : Begun) → IsRenewal written r x → MayRewrite written r → BegunBy x b → IsBegun written r b
begun_is written r x b is may h =
    let all : renewed x.first (lent x.former) (lent x.forms) ≡ rewritten written r = (λ i. renewed (is.first i) (is.former i) (is.forms i)) ∙ renewed_is written r may in
    record {
      renewal = subst (IsRenewal written r) (sym h.renewal) is;
      rise = h.rise;
      spots = subst (λ (n : ℕ). IsPermutation (spots_from n (forms_of r)) b.spots.items) is.first (subst (λ (ts : List Txn). IsPermutation (spots_from x.first ts) b.spots.items) is.forms h.spots);
      watched = subst (λ (ts : List Txn). AreOf (numbered_from 0 ts) b.watchers) all h.watched;
      symbols = h.symbols ∙ (λ i. symbols_written (is.former i ++ all i));
    }

pub renewal_inside : (written : List Txn) (r : Rewrite) (x : Renewal) → IsRenewal written r x → MayRewrite written r → x.first ≤ length x.former.txns.items
renewal_inside written r x is may =
    let size : length x.former.txns.items ≡ length written = sym (lent_size x.former.txns.items) ∙ ap (λ (ts : List Txn). length ts) is.former in
    let inside = first_inside written r may in
    let same = is.first in
    omega (arith, size, inside, same)

pub renewal_alone : (written : List Txn) (r : Rewrite) (x : Renewal) → IsRenewal written r x → x.first < length x.former.txns.items → length x.forms.txns.items ≡ 1
renewal_alone written r x is lt =
    let size : length x.former.txns.items ≡ length written = sym (lent_size x.former.txns.items) ∙ ap (λ (ts : List Txn). length ts) is.former in
    let same = is.first in
    sym (lent_size x.forms.txns.items) ∙ ap (λ (ts : List Txn). length ts) is.forms ∙ alone_of written r (omega (arith, size, same, lt))

pub renewal_is : (written : List Txn) (r : Rewrite) (x : Renewal) → IsRenewal written r x → MayRewrite written r → renewed_in x ≡ rewritten written r
renewal_is written r x is may =
    (λ i. renewed (min_is x.first (length x.former.txns.items) (renewal_inside written r x is may) i) (is.former i) (is.forms i))
    ∙ ap (λ (n : ℕ). renewed n written (forms_of r)) is.first
    ∙ renewed_is written r may

-- as it is handed to a walk
pub scene_by : (b : Begun) (s : Scene) (spots : List Spot) (symbols : List (List ℕ)) → s ≡ scene spots (lent b.renewal.former) (renewed_in b.renewal) b.watchers symbols → spots ≡ b.spots.items → symbols ≡ b.symbols → s ≡ scene_of b
scene_by b s spots symbols is places names = is ∙ (λ i. scene (places i) (lent b.renewal.former) (renewed_in b.renewal) b.watchers (names i))

module _ (written : List Txn) (r : Rewrite) (b : Begun) (h : IsBegun written r b) (may : MayRewrite written r) where
  abbrev now : List Txn
  now = rewritten written r

  abbrev plain : Scene
  plain = scene b.spots.items written now b.watchers b.symbols

  pub scene_is : scene_of b ≡ plain
  scene_is = λ i. scene b.spots.items (h.renewal.former i) (renewal_is written r b.renewal h.renewal may i) b.watchers b.symbols

  abbrev first : ℕ
  first = first_of written r

  abbrev forms : List Txn
  forms = forms_of r

  inside : first ≤ length written
  inside = first_inside written r may

  held : (n : ℕ) → holds b.spots.items n ≡ holds (spots_from first forms) n
  held n = holds_spots first forms b.spots.items n h.spots

  got : (k : ℕ) (t : Txn) → slice_get forms k ≡ Some t → slice_get now (first + k) ≡ Some t
  got k t is =
      ap (λ (ts : List Txn). slice_get ts (first + k)) (sym (renewed_is written r may))
      ∙ get_form first written forms k (first + k) inside refl (got_within forms k t is)
      ∙ is
    where
      got_within : (ts : List Txn) (n : ℕ) (t : Txn) → slice_get ts n ≡ Some t → n < length ts
      got_within [] n t e = cc
      got_within (u ∷ ts) zero t e = omega arith
      got_within (u ∷ ts) (suc n) t e = let rest = got_within ts n t e in omega (arith, rest)

  pub edited_begun : (book : List Txn) → Solves written book → IsEdited (scene_of b) book
  edited_begun book solves =
      subst (λ (s : Scene). IsEdited s book) (sym scene_is)
      (record {
        solves = solves;
        others =
            subst (λ (ts : List Txn). AreSame (holds b.spots.items) 0 written ts) (renewed_is written r may)
            (same_renewed (holds b.spots.items) first written forms 0 inside (λ n low high. held n ∙ holds_from first forms n (omega (arith, low)) (omega (arith, high))));
        some = let size = some_spots first forms b.spots.items h.spots in let some = forms_some written r may in omega (arith, size, some);
        rise = h.rise;
        once = once_spots first forms b.spots.items h.spots;
        each = stand_spots plain first forms b.spots.items h.spots got;
        size = let one = solves_size written book solves in let two = size_renewed first written forms in let three = ap (λ (ts : List Txn). length ts) (renewed_is written r may) in omega (arith, one, two, three);
        watched = text-watched now b.watchers h.watched;
      })

  -- ---- its edit

  edited : (n : ℕ) → holds b.spots.items n ≡ true → is_rewritten written r n ≡ true
  edited n on = let within = holds_in first forms n (sym (held n) ∙ on) in by r within.0 within.1
    where
      by : (r' : Rewrite) → first_of written r' ≤ n → n < first_of written r' + length (forms_of r') → is_rewritten written r' n ≡ true
      by (Behind more) low high = le_true (length written) n low
      by (At number txn) low high = eq-eqb n number (omega (arith, low, high))

  closed : (set : ℕ → Bool) → IsClosed (edit_by written r) set → IsClosed (edit_in plain) set
  closed set c = record { edited = λ n on. c.edited n (edited n on); before = c.before; after = c.after }

  pub checks_begun : (before after : Counts) → ChecksMost (scene_of b) before after → ChecksFew (edit_by written r) before after
  checks_begun before after most = λ set c. subst (λ (s : Scene). ChecksMost s before after) scene_is most set (closed set c)

  -- ---- symbols

  pub symbols_begun : b.symbols ≡ symbols_written (lent b.renewal.former ++ renewed_in b.renewal)
  symbols_begun = h.symbols ∙ (λ i. symbols_written (sym h.renewal.former i ++ sym (renewal_is written r b.renewal h.renewal may) i))

  pub names_begun : (book : List Txn) → Solves written book → HasSymbols b.symbols book
  names_begun book solves = subst (λ (symbols : List (List ℕ)). HasSymbols symbols book) (sym h.symbols) (symbols_before written now book solves)

  pub cause_begun : CanNot (scene_of b) → HasNoPlainReach (edit_by written r)
  cause_begun never = λ set after can.
      let walks : CanWalk plain set after = record {
        closed = closed set can.closed;
        solves = can.solves;
        few = can.few;
        plain = λ n old on was. can.undated n old (edited n on) was;
        unmixed = can.unmixed;
        near = can.near;
      } in
      let lacks = subst CanNot scene_is never set after walks in
      let named = subst (λ (symbols : List (List ℕ)). HasSymbols symbols after) (sym h.symbols) (symbols_behind now written after can.solves) in
      false≢true (sym lacks.lacks ∙ named.all lacks.symbol lacks.moved)

  -- ---- what it tells

  module _ (book : List Txn) (walked : Walked) (solves : Solves written book) (told : IsWalked (scene_of b) book walked) where
    abbrev room : List Txn
    room = with_room now book

    abbrev after : List Txn
    after = put_forms room walked.forms.items

    is_told : IsTold plain after (spots_of walked.forms.items) walked.kept
    is_told = subst (λ (s : Scene). IsWalked s book walked) scene_is told

    room_is : length room ≡ length now
    room_is =
        room_size now book
        (let one = solves_size written book solves in let two = size_renewed first written forms in let three = ap (λ (ts : List Txn). length ts) (renewed_is written r may) in omega (arith, one, two, three))

    within : (rs : List Replaced) → AllByRecursion (λ (t : Spot). t.number < length now) (spots_of rs) → AllByRecursion (IsInside room) rs
    within [] all = tt
    within (x ∷ rs) all = (let one = all.0 in let size = room_is in omega (arith, one, size), within rs all.1)

    pub walk_is : (w : Walk) → w.forms ≡ walked.forms → w.walks.kept ≡ walked.kept → w.walks.watchers ≡ b.watchers → AreSymbolsOf (renewed_in b.renewal) w.walks.symbols → IsWalk written book r w
    walk_is w same kept watchers symbols =
        let forms_are : put_forms room w.forms.items ≡ after = ap (λ fs. put_forms room fs.items) same in
        record {
          inside = subst (λ fs. AllByRecursion (IsInside room) fs.items) (sym same) (within walked.forms.items is_told.inside);
          once = subst (λ fs. AreOnce (spots_of fs.items)) (sym same) is_told.reached.once;
          solves = subst (Solves now) (sym forms_are) is_told.solves;
          walks = record {
            kept = subst (λ (k : Kept). IsKept (put_forms room w.forms.items) k) (sym kept) (subst (λ (ts : List Txn). IsKept ts walked.kept) (sym forms_are) is_told.kept_is);
            watched = subst (AreOf (numbered_from 0 now)) (sym watchers) h.watched;
            symbols = symbols ∙ ap symbols_written (renewal_is written r b.renewal h.renewal may);
          };
          fits = subst (λ (ts : List Txn). TurnoverFits (postings_of ts)) (sym forms_are) (ranged (postings_of after) is_told.kept_is.turnover.few is_told.solves.fits);
        }

    pub asks_begun : (old new : Counts) → new.nodes ≤ old.nodes + nodes_on (scene_of b) (spots_of walked.forms.items) → AsksWritten (edit_by written r) old new
    asks_begun old new asked =
        subst (λ (symbols : List (List ℕ)). AsksFew symbols (edit_by written r) old new) h.symbols
        (λ set c.
        let all : new.nodes ≤ old.nodes + nodes_on plain (spots_of walked.forms.items) = subst (λ (s : Scene). new.nodes ≤ old.nodes + nodes_on s (spots_of walked.forms.items)) scene_is asked in
        let few = weight_of (λ n. nodes_at b.symbols (slice_get now n)) (spots_of walked.forms.items) set (length now) is_told.reached.once (is_told.reached.least set (closed set c)) is_told.inside in
        omega (arith, all, few))

pub none_checked : (written : List Txn) (r : Rewrite) (c : Counts) → ChecksFew (edit_by written r) c c
none_checked written r c = λ set closed. omega arith
