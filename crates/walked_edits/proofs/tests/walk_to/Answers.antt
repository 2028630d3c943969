use Rattle.std.proofs.Common.{◌≡◌, ℕ, zero, suc, ◌+◌, ◌<◌, ◌≤◌, ◌==◌, ◌⊎◌, inl, inr, max, Bool, true, false, ◌||◌, cond, List, [], ◌∷◌, ◌++◌, drop, length, map, set, slice_get, Some, Result, Ok, Err, IfOk, refl, sym, ap, subst, ◌∙◌, arith, append-nil, length-append}
use Rattle.std.specs.List.{AllByRecursion}
use Rattle.std.proofs.lemmas.Bool.{cases_Bool, cases_lt, eq-eqb, eqb-true, false≢true}
use Rattle.std.proofs.lemmas.List.{drop_all, length-map, length-set, set-append_left, set_at}
use Rattle.std.proofs.lemmas.Option.{same_Some}
use Rattle.book.specs.declared.transaction.Txn.{Txn}
use Rattle.entry_balance.specs.Entry.{settled}
use Rattle.balancing.specs.Solves.{AreMadeTxns, Solves}
use Rattle.placed_sums.specs.Accounts.{HasSymbols}
use Rattle.reached_entries.specs.Reached.{AreSame}
use Rattle.reached_walk.specs.declared.place.Spot.{Spot}
use Rattle.reached_walk.proofs.Looking.{text-watched}
use Rattle.reached_walk.specs.Spots.{holds}
use Rattle.watchers.proofs.Tests.{or-left}
use Rattle.watchers.specs.declared.watch.Watch.{Watch}
use Rattle.watchers.specs.Watches.{AreOf, numbered_from}
use Rattle.walked_edits.specs.Forms.{put_forms, spots_of, vacant, with_form, with_forms, with_room}
use Rattle.walked_edits.specs.Keeping.{IsKept}
use Rattle.walked_edits.specs.Scenes.{IsEdited, Scene, scene}
use Rattle.walked_edits.specs.Walking.{IsWalked}
use Rattle.walked_edits.specs.declared.fault.WalkFault.{WalkFault}
use Rattle.walked_edits.specs.declared.replaced.Replaced.{Replaced}
use Rattle.walked_edits.specs.declared.walking.Walked.{Walked}
use Rattle.walked_edits.proofs.Begins.{drop_got, lt_false, lt_true}
use Rattle.walked_edits.proofs.Gets.{get_front, get_other, get_set}
use Rattle.walked_edits.proofs.Loading.{got_any}
use Rattle.walked_edits.proofs.Made.{same_by}
use Rattle.walked_edits.proofs.tests.walk_to.Goals as goal

form_same : (book : List Txn) (r : Replaced) → r.spot.number < length book → with_form book r ≡ set book r.spot.number r.txn
form_same book r h = ap (λ (b : Bool). cond b (set book r.spot.number r.txn) (book ++ r.txn ∷ [])) (lt_true r.spot.number (length book) h)

form_more : (book : List Txn) (r : Replaced) → length book ≤ r.spot.number → with_form book r ≡ book ++ r.txn ∷ []
form_more book r h = ap (λ (b : Bool). cond b (set book r.spot.number r.txn) (book ++ r.txn ∷ [])) (lt_false r.spot.number (length book) h)

get_last : (xs : List Txn) (x : Txn) (n : ℕ) → n ≡ length xs → slice_get (xs ++ x ∷ []) n ≡ Some x
get_last [] x zero e = refl
get_last [] x (suc n) e = absurd (omega (arith, e))
get_last (y ∷ ys) x zero e = absurd (omega (arith, e))
get_last (y ∷ ys) x (suc n) e = get_last ys x n (omega (arith, e))

get_beyond : (xs : List Txn) (x : Txn) (n : ℕ) → length xs < n → slice_get (xs ++ x ∷ []) n ≡ slice_get xs n
get_beyond [] x zero h = absurd (omega (arith, h))
get_beyond [] x (suc n) h = refl
get_beyond (y ∷ ys) x zero h = absurd (omega (arith, h))
get_beyond (y ∷ ys) x (suc n) h = get_beyond ys x n (omega (arith, h))

form_size : (book : List Txn) (r : Replaced) → r.spot.number ≤ length book → length (with_form book r) ≡ max (length book) (suc r.spot.number)
form_size book r next = by (cases_lt r.spot.number (length book))
  where
    by : (r.spot.number < length book) ⊎ (length book ≤ r.spot.number) → length (with_form book r) ≡ max (length book) (suc r.spot.number)
    by (inl e) = ap (λ (b : List Txn). length b) (form_same book r e) ∙ length-set book r.spot.number r.txn ∙ omega (arith, e)
    by (inr e) = ap (λ (b : List Txn). length b) (form_more book r e) ∙ length-append book (r.txn ∷ []) ∙ omega (arith, e, next)

form_there : (book : List Txn) (r : Replaced) → r.spot.number ≤ length book → slice_get (with_form book r) r.spot.number ≡ Some r.txn
form_there book r next = by (cases_lt r.spot.number (length book))
  where
    by : (r.spot.number < length book) ⊎ (length book ≤ r.spot.number) → slice_get (with_form book r) r.spot.number ≡ Some r.txn
    by (inl e) = ap (λ (b : List Txn). slice_get b r.spot.number) (form_same book r e) ∙ get_set book r.spot.number r.txn e
    by (inr e) = ap (λ (b : List Txn). slice_get b r.spot.number) (form_more book r e) ∙ get_last book r.txn r.spot.number (omega (arith, e, next))

form_other : (book : List Txn) (r : Replaced) (n : ℕ) → r.spot.number ≤ length book → (r.spot.number ≡ n → ⊥) → slice_get (with_form book r) n ≡ slice_get book n
form_other book r n next apart = by (cases_lt r.spot.number (length book))
  where
    beyond_it : (n m k : ℕ) → (m ≡ n → ⊥) → k ≤ m → m ≤ k → k ≤ n → k < n
    beyond_it n m k apart a b more = omega arith

    past : (n m k : ℕ) → (m ≡ n → ⊥) → k ≤ m → m ≤ k → (n < k) ⊎ (k < n)
    past n m k apart a b =
        elim (cases_lt n k) as (λ _. (n < k) ⊎ (k < n)) [
          | inl less ↦ inl less
          | inr more ↦ inr (beyond_it n m k apart a b more)
        ]

    at_end : (n < length book) ⊎ (length book < n) → slice_get (book ++ r.txn ∷ []) n ≡ slice_get book n
    at_end (inl e) = get_front book r.txn n e
    at_end (inr e) = get_beyond book r.txn n e

    by : (r.spot.number < length book) ⊎ (length book ≤ r.spot.number) → slice_get (with_form book r) n ≡ slice_get book n
    by (inl e) = ap (λ (b : List Txn). slice_get b n) (form_same book r e) ∙ get_other book r.spot.number n r.txn apart
    by (inr e) = ap (λ (b : List Txn). slice_get b n) (form_more book r e) ∙ at_end (past n r.spot.number (length book) apart e next)

made_length : (ws ms : List Txn) → AreMadeTxns ws ms → length ws ≡ length ms
made_length [] [] h = refl
made_length [] (m ∷ ms) h = absurd h
made_length (w ∷ ws) [] h = absurd h
made_length (w ∷ ws) (m ∷ ms) h = ap suc (made_length ws ms h.1)

solved_length : (ws ts : List Txn) → Solves ws ts → length ws ≡ length ts
solved_length ws ts s = made_length ws s.made s.kept ∙ sym (length-map s.made settled) ∙ sym (ap (λ (xs : List Txn). length xs) s.found)

is_edited : (former written book : List Txn) (r : Replaced) (spots : List Spot) (ws : List Watch) (symbols : List (List ℕ)) → spots ≡ r.spot ∷ [] → Solves former book → r.txn.day ≡ r.spot.day → r.spot.number ≤ length former → written ≡ with_form former r → AreOf (numbered_from 0 written) ws → IsEdited (scene spots former written ws symbols) book
is_edited former written book r spots ws symbols one solves day next is are =
    subst (λ (ps : List Spot). IsEdited (scene ps former written ws symbols) book) (sym one) (record {
      solves = solves;
      others = subst (λ (ts : List Txn). AreSame (holds (r.spot ∷ [])) 0 former ts) (sym is)
          (same_by (holds (r.spot ∷ [])) 0 former (with_form former r) (λ i k e off.
          form_other former r i next (λ same. false≢true (sym off ∙ or-left (r.spot.number == k) false (eq-eqb r.spot.number k (same ∙ at i k e))))));
      some = omega arith;
      rise = (refl, tt);
      once = (refl, tt);
      each = (
        record {
          inside = let a = ap (λ (ts : List Txn). length ts) is in let b = form_size former r next in omega (arith, a, b);
          day = λ txn got. ap (λ (t : Txn). t.day) (same_Some txn r.txn (sym got ∙ ap (λ (ts : List Txn). slice_get ts r.spot.number) is ∙ form_there former r next)) ∙ day;
        },
        tt,
      );
      size =
          let a = solved_length former book solves in
          let b = ap (λ (ts : List Txn). length ts) is ∙ form_size former r next in
          omega (arith, a, b);
      watched = text-watched written ws are;
    })
  where
    at : (i k : ℕ) → k ≡ 0 + i → i ≡ k
    at i k e = omega (arith, e)

-- ---- forms that come one behind the book

abbrev Within : ℕ → List Replaced → Type 0
Within size forms = AllByRecursion (λ r. r.spot.number < size) forms

inside_same : (size : ℕ) (book : List Txn) (forms : List Replaced) → length book ≡ size → Within size forms → with_forms book forms ≡ put_forms book forms
inside_same size book [] e h = refl
inside_same size book (r ∷ forms) e h =
    ap (λ (b : List Txn). with_forms b forms) (form_same book r (let one = h.0 in omega (arith, one, e)))
    ∙ inside_same size (set book r.spot.number r.txn) forms (length-set book r.spot.number r.txn ∙ e) h.1

behind_all : (x : Txn) (book : List Txn) (n : ℕ) (forms : List Replaced) → length book ≡ n → holds (spots_of forms) n ≡ true → Within (suc n) forms → with_forms book forms ≡ put_forms (book ++ x ∷ []) forms
behind_all x book n [] e h within = absurd (false≢true h)
behind_all x book n (r ∷ forms) e h within = by (cases_Bool (r.spot.number == n)) (λ b size k. behind_all x b n forms size k within.1)
  where
    rest : (b : Bool) → b ≡ false → (b || holds (spots_of forms) n) ≡ true → holds (spots_of forms) n ≡ true
    rest b f k = ap (λ (c : Bool). c || holds (spots_of forms) n) (sym f) ∙ k

    below : (a b : ℕ) → a < suc b → (a ≡ b → ⊥) → a < b
    below a b k apart = omega (arith, k)

    by : ((r.spot.number == n) ≡ true) ⊎ ((r.spot.number == n) ≡ false) → ((b : List Txn) → length b ≡ n → holds (spots_of forms) n ≡ true → with_forms b forms ≡ put_forms (b ++ x ∷ []) forms) → with_forms book (r ∷ forms) ≡ put_forms (book ++ x ∷ []) (r ∷ forms)
    by (inl f) again =
        let same : r.spot.number ≡ n = eqb-true r.spot.number n f in
        ap (λ (b : List Txn). with_forms b forms) (form_more book r (omega (arith, same, e)))
        ∙ inside_same (suc n) (book ++ r.txn ∷ []) forms (length-append book (r.txn ∷ []) ∙ omega (arith, e)) within.1
        ∙ ap (λ (b : List Txn). put_forms b forms) (sym (set_at book x [] r.txn r.spot.number (omega (arith, same, e))))
    by (inr f) again =
        let less : r.spot.number < n = below r.spot.number n within.0 (λ same. false≢true (sym f ∙ eq-eqb r.spot.number n same)) in
        ap (λ (b : List Txn). with_forms b forms) (form_same book r (omega (arith, less, e)))
        ∙ again (set book r.spot.number r.txn) (length-set book r.spot.number r.txn ∙ e) (rest (r.spot.number == n) f h)
        ∙ ap (λ (b : List Txn). put_forms b forms) (sym (set-append_left book (x ∷ []) r.spot.number r.txn (omega (arith, less, e))))

-- room for one is one place or none
one_room : (text book : List Txn) (forms : List Replaced) (n : ℕ) → n ≤ length book → length text ≡ max (length book) (suc n) → holds (spots_of forms) n ≡ true → Within (length text) forms → put_forms (with_room text book) forms ≡ with_forms book forms
one_room text book forms n next size held within = by (cases_lt n (length book))
  where
    here : (m : ℕ) → length text ≡ m → Within m forms
    here m e = subst (λ (k : ℕ). Within k forms) e within

    by : (n < length book) ⊎ (length book ≤ n) → put_forms (with_room text book) forms ≡ with_forms book forms
    by (inl less) =
        let same : length text ≡ length book = omega (arith, less, size) in
        let none : drop (length book) text ≡ [] = drop_all (length book) text (omega (arith, same)) in
        ap (λ (ts : List Txn). put_forms (book ++ map (λ (t : Txn). vacant t.day) ts) forms) none
        ∙ ap (λ (b : List Txn). put_forms b forms) (append-nil book)
        ∙ sym (inside_same (length text) book forms (sym same) within)
    by (inr more) =
        let same : length book ≡ n = omega (arith, more, next) in
        let w = got_any text (length book) (omega (arith, same, size)) in
        let rest : drop (length book) text ≡ w.0 ∷ [] = drop_got text (length book) w.0 w.1 ∙ ap (λ (ts : List Txn). w.0 ∷ ts) (drop_all (length book + 1) text (omega (arith, same, size))) in
        ap (λ (ts : List Txn). put_forms (book ++ map (λ (t : Txn). vacant t.day) ts) forms) rest
        ∙ sym (behind_all (vacant w.0.day) book n forms same held (here (suc n) (omega (arith, same, size))))

inside_by : (size : ℕ) (forms : List Replaced) → AllByRecursion (λ (t : Spot). t.number < size) (spots_of forms) → Within size forms
inside_by size [] h = tt
inside_by size (r ∷ forms) h = (h.0, inside_by size forms h.1)

told_after : (s : Scene) (spot : Spot) (before written : List Txn) (symbols : List (List ℕ)) (r : Result Walked WalkFault) → written ≡ s.written → symbols ≡ s.symbols → holds s.spots spot.number ≡ true → spot.number ≤ length before → length written ≡ max (length before) (suc spot.number) → IfOk r (IsWalked s before)
    → IfOk r (λ w. (Solves written (with_forms before w.forms.items) × IsKept (with_forms before w.forms.items) w.kept) × HasSymbols symbols (with_forms before w.forms.items))
told_after s spot before written symbols (Err e) same is own next size h = tt
told_after s spot before written symbols (Ok w) same is own next size h =
    let room : put_forms (with_room s.written before) w.forms.items ≡ with_forms before w.forms.items =
    one_room s.written before w.forms.items spot.number next (sym (ap (λ (ts : List Txn). length ts) same) ∙ size) (h.reached.closed.edited spot.number own) (inside_by (length s.written) w.forms.items h.inside) in (
      (
        subst (λ (ts : List Txn). Solves ts (with_forms before w.forms.items)) (sym same) (subst (λ (b : List Txn). Solves s.written b) room h.solves),
        subst (λ (b : List Txn). IsKept b w.kept) room h.kept_is,
      ),
      subst (λ (ss : List (List ℕ)). HasSymbols ss (with_forms before w.forms.items)) (sym is) (subst (λ (b : List Txn). HasSymbols s.symbols b) room h.symbols),
    )

pub walk-requires-clause-edited : goal.walk-requires-clause-edited
walk-requires-clause-edited g c =
    subst (λ (s : Scene). IsEdited s c.args.told.now.book.items) (sym c.new-edit.ensures)
    (is_edited c.args.told.now.text.items c.args.written.now.items c.args.told.now.book.items c.args.form.now c.from_ref-spots.result.now c.in_ok-watchers.watchers c.args.symbols.now
    c.from_ref-spots.ensures.value c.requires.told.0.0 c.requires.day c.requires.place c.requires.written
    (subst (λ (ts : List Txn). AreOf (numbered_from 0 ts) c.in_ok-watchers.watchers) c.as_slice.ensures.value c.in_ok-watchers.ensures))

pub walk-requires-clause-kept : goal.walk-requires-clause-kept
walk-requires-clause-kept g c = c.requires.told.0.1

pub walk-requires-clause-symbols : goal.walk-requires-clause-symbols
walk-requires-clause-symbols g c =
    subst (λ (symbols : List (List ℕ)). HasSymbols symbols c.args.told.now.book.items) (sym (ap (λ (s : Scene). s.symbols) c.new-edit.ensures)) c.requires.told.1

pub returns-clause-walked : goal.returns-clause-walked
returns-clause-walked g c =
    let size = solved_length c.args.told.now.text.items c.args.told.now.book.items c.requires.told.0.0 in
    told_after c.new-edit.result c.args.form.now.spot c.args.told.now.book.items c.args.written.now.items c.args.symbols.now c.walk.result
    (sym (ap (λ (s : Scene). s.written) c.new-edit.ensures)) (sym (ap (λ (s : Scene). s.symbols) c.new-edit.ensures))
    (subst (λ (ps : List Spot). holds ps c.args.form.now.spot.number ≡ true) (sym (ap (λ (s : Scene). s.spots) c.new-edit.ensures ∙ c.from_ref-spots.ensures.value))
    (or-left (c.args.form.now.spot.number == c.args.form.now.spot.number) false (eq-eqb c.args.form.now.spot.number c.args.form.now.spot.number refl)))
    (let place = c.requires.place in omega (arith, size, place))
    (ap (λ (ts : List Txn). length ts) c.requires.written ∙ form_size c.args.told.now.text.items c.args.form.now c.requires.place ∙ ap (λ (n : ℕ). max n (suc c.args.form.now.spot.number)) size)
    c.walk.ensures.walked
