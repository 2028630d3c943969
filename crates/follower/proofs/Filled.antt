-- How bytes are read on.
use Rattle.std.proofs.Common.{◌≡◌, ◌∙◌, ℕ, List, [], ◌++◌, length, take, drop, Option, None, Some, IfSome, refl, sym, ap, subst, arith, append_assoc, length-append, length-take, take-append-drop}
use Rattle.std.proofs.lemmas.List.{append-nil}
use Rattle.hl_base.specs.Causes.{Rose}
use Rattle.follower.specs.declared.fault.FrameFault.{FrameFault}
use Rattle.follower.specs.declared.fault.FrameFault.TheVariants.{ReadFault, Cut, BadFrame, TooLong, Memory}
use Rattle.follower.specs.Fills.{ReadsOn, FillsOn, Ends, ReadRefused, NextRefused}

pub fills_none : (left : Option (List ℕ)) (bytes : List ℕ) → FillsOn left left bytes bytes
fills_none None bytes = tt
fills_none (Some all) bytes = (all, refl, refl)

pub fills_then : (a b c : Option (List ℕ)) (x y z : List ℕ) → FillsOn a b x y → FillsOn b c y z → FillsOn a c x z
fills_then None b c x y z p q = tt
fills_then (Some all) b c x y z p q =
    let on = subst (λ (o : Option (List ℕ)). FillsOn o c y z) p.1 q in
    (on.0, on.1, p.2 ∙ on.2)

pub ends_then : (a b c : Option (List ℕ)) (x y : List ℕ) → FillsOn a b x y → Ends b c → Ends a c
ends_then None b c x y p q = tt
ends_then (Some all) b c x y p q = subst (λ (o : Option (List ℕ)). Ends o c) p.1 q

pub fills_more : (a b : Option (List ℕ)) (bytes new : List ℕ) → ReadsOn a b bytes new → FillsOn a b bytes new
fills_more None b bytes new read = tt
fills_more (Some all) b bytes new read =
    let n = read.0 in (
      drop n all,
      read.3,
      ap (λ (l : List ℕ). bytes ++ l) (sym (take-append-drop n all)) ∙ sym (append_assoc bytes (take n all) (drop n all)) ∙ ap (λ (l : List ℕ). l ++ drop n all) (sym read.2),
    )

-- no byte more was read, so none is left
pub ends_here : (a b : Option (List ℕ)) (bytes new : List ℕ) → ReadsOn a b bytes new → length new ≡ length bytes → Ends a b
ends_here None b bytes new read same = tt
ends_here (Some all) b bytes new read same =
    let none : read.0 ≡ 0 = omega (arith, same, ap length read.2, length-append bytes (take read.0 all), length-take read.0 all, read.1) in
    read.3 ∙ (λ i. Some (drop (none i) (read.4 none i)))

some_same : (x y : List ℕ) → Some x ≡ Some y → x ≡ y
some_same x y is = let e : x ≡ y = cc in e

-- all that was left was read
pub all_read : (a b : Option (List ℕ)) (x y : List ℕ) → FillsOn a b x y → Ends a b → IfSome a (λ all. x ++ all ≡ y)
all_read None b x y p q = tt
all_read (Some all) b x y p q = p.2 ∙ ap (λ (l : List ℕ). y ++ l) (some_same p.0 [] (sym p.1 ∙ q)) ∙ append-nil y

pub if_some_map : (a : Option (List ℕ)) (P Q : List ℕ → Type 0) → ((all : List ℕ) → P all → Q all) → IfSome a P → IfSome a Q
if_some_map None P Q from p = tt
if_some_map (Some all) P Q from p = from all p

pub if_some_two : (a : Option (List ℕ)) (P Q R : List ℕ → Type 0) → ((all : List ℕ) → P all → Q all → R all) → IfSome a P → IfSome a Q → IfSome a R
if_some_two None P Q R from p q = tt
if_some_two (Some all) P Q R from p q = from all p q

-- a read that failed is why no frame was read
pub next_refused : (left : Option (List ℕ)) (start before now : ℕ) (e : FrameFault) → start ≡ before → ReadRefused before now e → NextRefused left start now e
next_refused left start before now ReadFault same refused = subst (λ (n : ℕ). Rose n now) (sym same) refused
next_refused left start before now Memory same refused = tt
next_refused left start before now (Cut had) same refused = absurd refused
next_refused left start before now (BadFrame kind) same refused = absurd refused
next_refused left start before now (TooLong said limit) same refused = absurd refused
