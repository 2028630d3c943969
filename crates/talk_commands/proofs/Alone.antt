-- A history in which no pass but the first one made an entry.
use Rattle.std.proofs.Common.{◌≡◌, ℕ, zero, suc, ◌<◌, Bool, true, false, eqb, List, [], ◌∷◌, length, refl, ap, sym, subst, ◌∙◌, arith, eq-eqb, ne_eqb, if◌then◌else◌}
use Rattle.std.specs.Prelude.{All}
use Rattle.std.proofs.lemmas.Bool.{false≢true}
use Rattle.std.proofs.lemmas.List.Elements.{All-nil}
use Rattle.hl_base.specs.declared.disk.Disk.{Ghosts as Disks}
use Rattle.turn_lock.specs.History.{IsNone, IsOf, made_by}
use Rattle.turn_lock.specs.declared.known.Entered.{Entered}
use Rattle.turn_lock.specs.declared.known.Member.{Member}
use Rattle.desk.specs.declared.desk.Desk.{Desk}
use Rattle.desk.specs.Desks.{Leads as DeskLeads}
use Rattle.desk.specs.Entries.{Entry}
use Rattle.shared_desk.specs.Histories.{IsLegal}

-- a number that isn't above 0
zero_is : (n : ℕ) → (0 < n → ⊥) → n ≡ 0
zero_is zero none = refl
zero_is (suc n) none = absurd (none (omega arith))

other_than : (m n : ℕ) → m ≡ 0 → 0 < n → m ≡ n → ⊥
other_than m n none past is = omega (arith, none, past, is)

module _ {E : Type 0} where
  abbrev pub IsAlone : List (Entered E) → Type 0
  IsAlone history = (n : ℕ) → 0 < n → made_by n history ≡ []

  -- where no pass was joined, all is of the first one
  pub alone_of : (history : List (Entered E)) (mine : List E) (joined : List (Member E)) → IsOf history mine joined → joined ≡ [] → IsAlone history
  alone_of history mine joined whole none = λ n past.
      whole.others n past (subst (λ (those : List (Member E)). IsNone n those) (sym none) (All-nil (λ (m : Member E). m.number ≡ n → ⊥)))

  some_entry : (e : E) (es : List E) → e ∷ es ≡ [] → ⊥
  some_entry e es is =
      let long : suc (length es) ≡ 0 = ap (λ (l : List E). length l) is in
      omega (arith, long)

  kept_one : (b : Bool) (e : E) (es others : List E) → b ≡ true → (if b then e ∷ es else others) ≡ [] → ⊥
  kept_one true e es others holds none = some_entry e es none
  kept_one false e es others holds none = absurd (false≢true holds)

  by_first : (x : Entered E) (xs : List (Entered E)) → IsAlone (x ∷ xs) → x.by ≡ 0
  by_first x xs alone = zero_is x.by (λ past.
      kept_one (eqb x.by x.by) x.entry (made_by x.by xs) (made_by x.by xs) (eq-eqb x.by x.by refl) (alone x.by past))

  made_first : (x : Entered E) (xs : List (Entered E)) → x.by ≡ 0 → made_by 0 (x ∷ xs) ≡ x.entry ∷ made_by 0 xs
  made_first x xs is = ap (λ (b : Bool). if b then x.entry ∷ made_by 0 xs else made_by 0 xs) (eq-eqb x.by 0 is)

  alone_behind : (x : Entered E) (xs : List (Entered E)) → x.by ≡ 0 → IsAlone (x ∷ xs) → IsAlone xs
  alone_behind x xs is alone = λ n past.
      sym (ap (λ (b : Bool). if b then x.entry ∷ made_by n xs else made_by n xs) (ne_eqb x.by n (other_than x.by n is past))) ∙ alone n past

  pub alone_length : (history : List (Entered E)) → IsAlone history → length history ≡ length (made_by 0 history)
  alone_length [] alone = refl
  alone_length (x ∷ xs) alone =
      let is = by_first x xs alone in
      ap suc (alone_length xs (alone_behind x xs is alone)) ∙ ap (λ (es : List E). length es) (sym (made_first x xs is))

module _ {D : Type 0} {g : Disks D} where
  -- a legal history of such entries is a run of the machine by them
  pub led_alone : (opening last : Desk D g) (history : List (Entered Entry)) → IsAlone history → IsLegal opening history last
      → DeskLeads opening (made_by 0 history) last
  led_alone opening last [] alone led = sym led
  led_alone opening last (x ∷ xs) alone led =
      let is = by_first x xs alone in
      let mid : Desk D g = led.0 in
      let rest : DeskLeads mid (made_by 0 xs) last = led_alone mid last xs (alone_behind x xs is alone) led.2 in
      subst (λ (es : List Entry). DeskLeads opening es last) (sym (made_first x xs is)) (mid, led.1, rest)
