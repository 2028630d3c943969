-- Bytes that end inside a target, by where the last of them leads.
use Rattle.std.proofs.Common.{◌≡◌, ℕ, ◌<◌, Bool, true, false, not, ◌&&◌, ◌||◌, ◌==◌, if◌then◌else◌, List, [], ◌∷◌, ◌++◌, length, refl, ap, sym, ◌∙◌, append_assoc, arith}
use Rattle.std.proofs.lemmas.Bool.Decides.{nat_tests}
use Rattle.std.proofs.lemmas.List.Elements.{All-head, All-tail, All-nil, All-cons}
use Rattle.std.proofs.lemmas.List.Sums.{fold-append}
use Rattle.std.specs.Bool.{IsTrue}
use Rattle.std.specs.List.{list_all}
use Rattle.httparse.specs.Grammar.{LineEnd, crlf, lf, print_blank, is_token_byte, is_uri_byte, IsToken, AllPass, EndsInTarget}
use Rattle.web_messages.specs.declared.target.Place.{Place}
use Rattle.web_messages.specs.declared.target.Place.TheVariants.{Start, Return, Method, Target, Past}
use Rattle.web_messages.specs.Targets.{IsInTarget, from_method, from_start, from_target, is_of_target, is_target, next_place, place_from}

-- ---- a target's bytes lead into it

token_starts : (b : ℕ) → IsTrue (is_token_byte b) → from_start b ≡ Method
unfolding is_token_byte
token_starts b t = grind (arith, nat_tests)

token_stays : (b : ℕ) → IsTrue (is_token_byte b) → from_method b ≡ Method
token_stays b t = rw t refl

space_ends : from_method 32 ≡ Target
unfolding is_token_byte
space_ends = refl

blank_stays : (blank : List LineEnd) → place_from Start (print_blank blank) ≡ Start
blank_stays [] = refl
blank_stays (crlf ∷ ends) = blank_stays ends
blank_stays (lf ∷ ends) = blank_stays ends

method_stays : (bytes : List ℕ) → AllPass is_token_byte bytes → place_from Method bytes ≡ Method
method_stays [] p = refl
method_stays (b ∷ bytes) p =
    ap (λ q. place_from q bytes) (token_stays b (All-head (λ c. IsTrue (is_token_byte c)) b bytes p))
    ∙ method_stays bytes (All-tail (λ c. IsTrue (is_token_byte c)) b bytes p)

method_read : (bytes : List ℕ) → IsToken bytes → place_from Start bytes ≡ Method
method_read [] p = absurd (omega (arith, p.0))
method_read (b ∷ bytes) p =
    ap (λ q. place_from q bytes) (token_starts b (All-head (λ c. IsTrue (is_token_byte c)) b bytes p.1))
    ∙ method_stays bytes (All-tail (λ c. IsTrue (is_token_byte c)) b bytes p.1)

parts : (a b : Bool) → (a && b) ≡ true → (a ≡ true) × (b ≡ true)
parts true b h = (refl, h)
parts false b h = cc

joined : (a b : Bool) → a ≡ true → b ≡ true → (a && b) ≡ true
joined a b h k = ap (λ (x : Bool). x && b) h ∙ k

none_of : (b : Bool) → not b ≡ true → b ≡ false
none_of true h = cc
none_of false h = refl

target_stays : (bytes : List ℕ) → list_all is_of_target bytes ≡ true → place_from Target bytes ≡ Target
target_stays [] h = refl
target_stays (b ∷ bytes) h =
    let both = parts (is_of_target b) (list_all is_of_target bytes) h in
    let within : from_target b ≡ Target = ap (λ (v : Bool). if v then Past else Target) (none_of (b == 32 || b == 10) both.0) in
    ap (λ q. place_from q bytes) within ∙ target_stays bytes both.1

-- bytes that end inside a target lead there
pub inside_is : (bytes : List ℕ) → IsInTarget bytes → place_from Start bytes ≡ Target
inside_is bytes i =
    let blank = print_blank i.blank in
    let tail = i.method ++ 32 ∷ i.target in
    ap (λ l. place_from Start l) i.whole
    ∙ fold-append next_place Start blank tail
    ∙ ap (λ q. place_from q tail) (blank_stays i.blank)
    ∙ fold-append next_place Start i.method (32 ∷ i.target)
    ∙ ap (λ q. place_from q (32 ∷ i.target)) (method_read i.method i.token)
    ∙ ap (λ q. place_from q i.target) space_ends
    ∙ target_stays i.target i.rest

-- ---- what leads into a target is one

-- the form of bytes that lead into a target from a place
abbrev Form : Place → List ℕ → Type 0
Form Start bytes = IsInTarget bytes
Form Return bytes = (rest : List ℕ) × (bytes ≡ 10 ∷ rest) × IsInTarget rest
Form Method bytes =
    (method : List ℕ) × (target : List ℕ) × AllPass is_token_byte method × (list_all is_of_target target ≡ true) × (bytes ≡ method ++ 32 ∷ target)
Form Target bytes = list_all is_of_target bytes ≡ true
Form Past bytes = ⊥

same_byte : (b c : ℕ) → (b == c) ≡ true → b ≡ c
same_byte b c h = grind (arith, nat_tests)

past_stays : (bytes : List ℕ) → place_from Past bytes ≡ Past
past_stays [] = refl
past_stays (b ∷ bytes) = past_stays bytes

never_past : (bytes : List ℕ) → place_from Past bytes ≡ Target → ⊥
never_past bytes h = let e : Past ≡ Target = sym (past_stays bytes) ∙ h in cc

-- an empty line before such bytes
behind_line : (bytes rest : List ℕ) → bytes ≡ 10 ∷ rest → IsInTarget rest → IsInTarget bytes
behind_line bytes rest is i = record {
  blank = lf ∷ i.blank;
  method = i.method;
  target = i.target;
  token = i.token;
  rest = i.rest;
  whole = is ∙ ap (λ (l : List ℕ). 10 ∷ l) i.whole;
}

behind_return : (bytes rest : List ℕ) → bytes ≡ 13 ∷ 10 ∷ rest → IsInTarget rest → IsInTarget bytes
behind_return bytes rest is i = record {
  blank = crlf ∷ i.blank;
  method = i.method;
  target = i.target;
  token = i.token;
  rest = i.rest;
  whole = is ∙ ap (λ (l : List ℕ). 13 ∷ 10 ∷ l) i.whole;
}

of_method : (b : ℕ) (bytes : List ℕ) → is_token_byte b ≡ true → Form Method bytes → Form Method (b ∷ bytes)
of_method b bytes token m =
    (b ∷ m.0, m.1, All-cons (λ c. IsTrue (is_token_byte c)) b m.0 token m.2, m.3, ap (λ (l : List ℕ). b ∷ l) m.4)

start_by : (b : ℕ) (bytes : List ℕ) (line ret token : Bool) → (b == 10) ≡ line → (b == 13) ≡ ret → is_token_byte b ≡ token
    → ((place : Place) → place_from place bytes ≡ Target → Form place bytes)
    → place_from (if line then Start else if ret then Return else if token then Method else Past) bytes ≡ Target → IsInTarget (b ∷ bytes)
start_by b bytes true ret token l r t rec h = behind_line (b ∷ bytes) bytes (ap (λ (c : ℕ). c ∷ bytes) (same_byte b 10 l)) (rec Start h)
start_by b bytes false true token l r t rec h =
    let m = rec Return h in
    behind_return (b ∷ bytes) m.0 (ap (λ (c : ℕ). c ∷ bytes) (same_byte b 13 r) ∙ ap (λ (tail : List ℕ). 13 ∷ tail) m.1) m.2
start_by b bytes false false true l r t rec h =
    let m : Form Method bytes = rec Method h in
    let some : 0 < length (b ∷ m.0) = omega arith in
    record {
      blank = [];
      method = b ∷ m.0;
      target = m.1;
      token = (some, All-cons (λ c. IsTrue (is_token_byte c)) b m.0 t m.2);
      rest = m.3;
      whole = ap (λ (l : List ℕ). b ∷ l) m.4;
    }
start_by b bytes false false false l r t rec h = absurd (never_past bytes h)

return_by : (b : ℕ) (bytes : List ℕ) (line : Bool) → (b == 10) ≡ line → ((place : Place) → place_from place bytes ≡ Target → Form place bytes)
    → place_from (if line then Start else Past) bytes ≡ Target → Form Return (b ∷ bytes)
return_by b bytes true l rec h = (bytes, ap (λ (c : ℕ). c ∷ bytes) (same_byte b 10 l), rec Start h)
return_by b bytes false l rec h = absurd (never_past bytes h)

method_by : (b : ℕ) (bytes : List ℕ) (token space : Bool) → is_token_byte b ≡ token → (b == 32) ≡ space → ((place : Place) → place_from place bytes ≡ Target → Form place bytes)
    → place_from (if token then Method else if space then Target else Past) bytes ≡ Target → Form Method (b ∷ bytes)
method_by b bytes true space t s rec h = of_method b bytes t (rec Method h)
method_by b bytes false true t s rec h = ([], bytes, All-nil (λ c. IsTrue (is_token_byte c)), rec Target h, ap (λ (c : ℕ). c ∷ bytes) (same_byte b 32 s))
method_by b bytes false false t s rec h = absurd (never_past bytes h)

target_by : (b : ℕ) (bytes : List ℕ) (out : Bool) → (b == 32 || b == 10) ≡ out → ((place : Place) → place_from place bytes ≡ Target → Form place bytes)
    → place_from (if out then Past else Target) bytes ≡ Target → Form Target (b ∷ bytes)
target_by b bytes true o rec h = absurd (never_past bytes h)
target_by b bytes false o rec h = joined (is_of_target b) (list_all is_of_target bytes) (ap not o) (rec Target h)

formed : (bytes : List ℕ) (place : Place) → place_from place bytes ≡ Target → Form place bytes
formed [] Start h = absurd (cc h)
formed [] Return h = absurd (cc h)
formed [] Method h = absurd (cc h)
formed [] Target h = refl
formed [] Past h = absurd (cc h)
formed (b ∷ bytes) Start h = start_by b bytes (b == 10) (b == 13) (is_token_byte b) refl refl refl (λ place. formed bytes place) h
formed (b ∷ bytes) Return h = return_by b bytes (b == 10) refl (λ place. formed bytes place) h
formed (b ∷ bytes) Method h = method_by b bytes (is_token_byte b) (b == 32) refl refl (λ place. formed bytes place) h
formed (b ∷ bytes) Target h = target_by b bytes (b == 32 || b == 10) refl (λ place. formed bytes place) h
formed (b ∷ bytes) Past h = absurd (never_past bytes h)

-- ---- the test

target_is : (place : Place) → is_target place ≡ true → place ≡ Target
target_is Start h = cc
target_is Return h = cc
target_is Method h = cc
target_is Target h = refl
target_is Past h = cc

pub inside_of : (bytes : List ℕ) → is_target (place_from Start bytes) ≡ true → IsInTarget bytes
inside_of bytes h = formed bytes Start (target_is (place_from Start bytes) h)

pub outside_of : (bytes : List ℕ) → is_target (place_from Start bytes) ≡ false → IsInTarget bytes → ⊥
outside_of bytes h inside = let e : true ≡ false = sym (ap is_target (inside_is bytes inside)) ∙ h in cc

-- bytes that end inside a target of the grammar
uri_of_target : (bytes : List ℕ) → AllPass is_uri_byte bytes → list_all is_of_target bytes ≡ true
uri_of_target [] p = refl
uri_of_target (b ∷ bytes) p =
    joined (is_of_target b) (list_all is_of_target bytes) (uri_byte b (All-head (λ c. IsTrue (is_uri_byte c)) b bytes p)) (uri_of_target bytes (All-tail (λ c. IsTrue (is_uri_byte c)) b bytes p))
  where
    uri_byte : (c : ℕ) → IsTrue (is_uri_byte c) → is_of_target c ≡ true
    uri_byte c t = grind (arith, nat_tests)

pub in_target_of : (bytes : List ℕ) → EndsInTarget bytes → IsInTarget bytes
in_target_of bytes p = record { blank = p.0; method = p.1; target = p.2; token = p.3; rest = uri_of_target p.2 p.4; whole = p.5 ∙ append_assoc (print_blank p.0) p.1 (32 ∷ p.2) }
