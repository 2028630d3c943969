-- What two disks come to in which a store of a text was made.
use Rattle.std.proofs.Common.{◌≡◌, ℕ, ◌<◌, ◌≤◌, ◌-◌, ◌^◌, ◌==◌, min, Bool, true, false, nat_lt, if◌then◌else◌, List, [], Option, None, Some, Result, Ok, Err, refl, sym, ◌∙◌, ap, subst, arith}
use Rattle.std.proofs.lemmas.Bool.Decides.{nat_tests}
use Rattle.hl_base.specs.declared.disk.Disk.{Ghosts as Disks}
use Rattle.text_store.specs.declared.fault.StoreFault.{StoreFault}
use Rattle.text_store.specs.declared.fault.StoreFault.TheVariants as store_fault
use Rattle.text_store.specs.declared.store.Store.{Store}
use Rattle.text_store.specs.Edits.{whole_size}
use Rattle.text_store.specs.Files.{WhileMade, fresh}
use Rattle.text_store.specs.Image.{image}
use Rattle.text_store.specs.Refusals.{CreateRefused, Told, first_length}
use Rattle.text_store.specs.Stores.{Holds, Keeps, Tell, Throughout, disks, fault_count, limit_of, repair_due, size_of}
use Rattle.store_text.specs.Refusals.{unopened}
use Rattle.store_text.specs.declared.refusal.StoreRefusal.{StoreRefusal}
use Rattle.store_text.specs.declared.refusal.StoreRefusal.TheVariants as refusal
use Rattle.store_text.proofs.OpeningLaws.{held_reads}
use Rattle.store_making.specs.Making.{MakesDisks, first_file}
use Rattle.store_making.specs.Refusals.{exists, files_refusal}

not_less : (a b : ℕ) → b ≤ a → nat_lt a b ≡ false
not_less a b le = grind (arith, nat_tests)

is_less : (a b : ℕ) → a < b → nat_lt a b ≡ true
is_less a b less = grind (arith, nat_tests)

not_zero : (n : ℕ) → 0 < n → (n == 0) ≡ false
not_zero n some = grind (arith, nat_tests)

-- what is refused by a test for room
chosen : (b : Bool) (full rest : Option StoreRefusal) → Option StoreRefusal
chosen b full rest = if b then full else rest

-- two empty files with room
pub made_refusal : (text : List ℕ) (limit : ℕ) (f s : List ℕ) → f ≡ [] → s ≡ [] → whole_size (fresh text) ≤ limit → files_refusal text limit f s ≡ None
unfolding chosen
made_refusal text limit f s first second fits =
    ap (λ (b : Bool). chosen b (Some (refusal.Full (min (whole_size (fresh text)) (2 ^ 64 - 1)) limit)) (exists f s)) (not_less limit (whole_size (fresh text)) fits)
    ∙ ap (λ (x : List ℕ). exists x s) first ∙ ap (λ (x : List ℕ). exists [] x) second

-- no room
pub full_refusal : (text : List ℕ) (limit size : ℕ) (f s : List ℕ) → limit < whole_size (fresh text) → size ≡ min (whole_size (fresh text)) (2 ^ 64 - 1)
    → files_refusal text limit f s ≡ Some (refusal.Full size limit)
unfolding chosen
full_refusal text limit size f s less is =
    ap (λ (b : Bool). chosen b (Some (refusal.Full (min (whole_size (fresh text)) (2 ^ 64 - 1)) limit)) (exists f s)) (is_less limit (whole_size (fresh text)) less)
    ∙ ap (λ (n : ℕ). Some (refusal.Full n limit)) (sym is)

-- a file that isn't empty
pub exists_refusal : (text : List ℕ) (limit len : ℕ) (f s : List ℕ) → whole_size (fresh text) ≤ limit → 0 < len → len ≡ first_length f s
    → files_refusal text limit f s ≡ Some (refusal.Exists len)
unfolding chosen
exists_refusal text limit len f s fits some is =
    ap (λ (b : Bool). chosen b (Some (refusal.Full (min (whole_size (fresh text)) (2 ^ 64 - 1)) limit)) (exists f s)) (not_less limit (whole_size (fresh text)) fits)
    ∙ ap (λ (b : Bool). chosen b None (Some (refusal.Exists (first_length f s)))) (not_zero (first_length f s) (subst (λ (n : ℕ). 0 < n) is some))
    ∙ ap (λ (n : ℕ). Some (refusal.Exists n)) (sym is)

some_is : (a b : List ℕ) (o : Option (List ℕ)) → o ≡ Some a → o ≡ Some b → a ≡ b
some_is a b o first second = ap of (sym first ∙ second)
  where
    of : Option (List ℕ) → List ℕ
    of None = a
    of (Some x) = x

module _ {D : Type 0} (g : Disks D) (old : D × D) (text : List ℕ) (limit : ℕ) where
  abbrev pub Moments : D × D → Type 0
  Moments new = Told g old (λ _ _. Tell g old → Throughout g old new (WhileMade g old (fresh text)))

  abbrev pub Bounds : D × D → Type 0
  Bounds new = Keeps g old new (limit, limit)

  module _ {U : Type 0} where
    abbrev pub refused : StoreRefusal → Result U StoreRefusal
    refused r = Err r

    abbrev pub done_so : U → Result U StoreRefusal
    done_so u = Ok u

    pub made_disks : (u : U) (store : Store D g) (back : D × D) → back ≡ disks store → Told g old (λ f s. (f ≡ []) × (s ≡ []) × Holds store (fresh text))
        → Told g old (λ _ _. (g.seen (disks store).0 ≡ Some (first_file text limit)) × (g.seen (disks store).1 ≡ Some []))
        → (size_of store ≡ whole_size (fresh text)) × (size_of store ≤ limit) × (limit_of store ≡ limit) × (repair_due store ≡ false)
        → Moments (disks store) → Bounds (disks store) → fault_count g (disks store) ≡ fault_count g old → MakesDisks g old back text limit (done_so u)
    made_disks u store back is made bytes numbers moments bounds same = subst (λ (b : D × D). MakesDisks g old b text limit (done_so u)) (sym is) (record {
      answer = λ f s is_first is_second.
          let m = made f s is_first is_second in
          made_refusal text limit f s m.0 m.1 (subst (λ (n : ℕ). n ≤ limit) numbers.0 numbers.1);
      made = λ f s is_first is_second.
          let m = made f s is_first is_second in
          let b = bytes f s is_first is_second in
          let r = held_reads g store (fresh text) m.2 in (
            b.0,
            b.1,
            ap (λ (x : List ℕ). image x []) (some_is (first_file text limit) r.0 (g.seen (disks store).0) b.0 r.2)
                ∙ ap (λ (x : List ℕ). image r.0 x) (some_is [] r.1 (g.seen (disks store).1) b.1 r.3) ∙ r.4,
            m.2.shows,
          );
      stays = tt;
      any_moment = moments;
      kind = tt;
      rose = tt;
      no_fault = same;
      keeps = bounds;
    })

    pub refused_disks : (new : D × D) (fault : StoreFault) → CreateRefused g old new (whole_size (fresh text)) limit fault → Moments new → Bounds new
        → MakesDisks g old new text limit (refused (unopened fault))
    refused_disks new store_fault.DiskFault cause moments bounds = record {
      answer = λ f s is_first is_second. tt;
      made = tt;
      stays = λ unlike. absurd (unlike refl);
      any_moment = moments;
      kind = tt;
      rose = λ e. cause.1;
      no_fault = tt;
      keeps = bounds;
    }
    refused_disks new (store_fault.Full size most) cause moments bounds = record {
      answer = λ f s is_first is_second.
          full_refusal text limit size f s cause.0 cause.1 ∙ ap (λ (n : ℕ). Some (refusal.Full size n)) (sym cause.2);
      made = tt;
      stays = λ unlike. (ap (λ (d : D × D). g.seen d.0) cause.3, ap (λ (d : D × D). g.seen d.1) cause.3);
      any_moment = moments;
      kind = tt;
      rose = λ e. absurd cc;
      no_fault = tt;
      keeps = bounds;
    }
    refused_disks new (store_fault.Exists len) cause moments bounds = record {
      answer = λ f s is_first is_second. exists_refusal text limit len f s cause.0 cause.1 (cause.2 f s is_first is_second);
      made = tt;
      stays = λ unlike. cause.3;
      any_moment = moments;
      kind = tt;
      rose = λ e. absurd cc;
      no_fault = tt;
      keeps = bounds;
    }
    refused_disks new store_fault.Memory cause moments bounds = record {
      answer = λ f s is_first is_second. tt;
      made = tt;
      stays = λ unlike. (ap (λ (d : D × D). g.seen d.0) cause, ap (λ (d : D × D). g.seen d.1) cause);
      any_moment = moments;
      kind = tt;
      rose = λ e. absurd cc;
      no_fault = tt;
      keeps = bounds;
    }
    refused_disks new (store_fault.NotAStore at) cause moments bounds = absurd cause
    refused_disks new (store_fault.Newer version) cause moments bounds = absurd cause
