-- What stands at the front of some bytes is decided: a head, what may still become one, or what never will.
use Rattle.std.proofs.Common.{◌≡◌, ◌⊎◌, ℕ, zero, suc, ◌+◌, ◌-◌, ◌<◌, ◌≤◌, Bool, true, false, List, [], ◌∷◌, ◌++◌, length, codes, IsUtf8, refl, sym, ap, ◌∙◌, subst, inl, inr, arith, append_assoc, append-nil, length-append}
use Rattle.std.proofs.lemmas.Bool.{both_ways, cases_eq, cases_lt}
use Rattle.std.proofs.lemmas.List.{append_cancel_left}
use Rattle.std.proofs.lemmas.List.Elements.{All-cons, All-nil}
use Rattle.std.proofs.lemmas.Str.{IsUtf8-from_is_utf8, is_utf8-from_IsUtf8}
use Rattle.std.specs.List.{flat_map}
use Rattle.std.specs.Str.{is_utf8}
use Rattle.httparse.specs.Grammar.{AllPass, Field, IsField, LineEnd, MayBecomeRequest, NeverHasRequest, ReadsRequest, RequestHead, crlf, is_token_byte, is_uri_byte, is_value_byte, lf, print_blank, print_end, print_field}
use Rattle.httparse.specs.Pieces.{Begins, Blank, BlankLines, Bytes, Completes, FieldLine, FieldLines, MayBecomeRequestStart, Method, Never, Newline, NotYet, Piece, Refutes, RequestStart, Section, Target, Text, Then, Version, Word, is_newline}
use Rattle.httparse.proofs.GrammarLemmas.{request_from_pieces, request_head}
use Rattle.httparse.proofs.HeadLemmas.{request_never, request_not_yet}
use Rattle.httparse.proofs.LineLemmas.{request_blank, request_method, request_target}
use Rattle.httparse.proofs.OpenLemmas.{BlankLines_after, Completes_first, Completes_next, FieldLine_of_row, Newline_after_cr, Section_after_lines, Section_of_line, Version_after_bytes, Version_before_digit, Word_cut, ends_in_target, letter_is_token, line_blank, line_method, line_version, request_may, request_may_from_line, some_bytes, some_newline, some_section, some_text}
use Rattle.httparse.proofs.PieceLemmas.{Blank_deterministic, FieldLines-append, IsDeterministic, Method_deterministic, Name_deterministic, Never_intro, NotYet_intro, Refutes_by, Refutes_first, Refutes_next, RequestStart_deterministic, Section_skip, Stops_value, Target_deterministic, Version_deterministic, Word_deterministic, colon_ends_token, front-append, print_field-append, space_ends_token}
use Rattle.httparse.proofs.ReadLemmas.{BeginsLine_either, BeginsLine_open, Blank_after, Blank_newline, Blank_open, FieldLine_at_newline, FieldLine_done, FieldLine_row, Newline_at_other, Section_after, Target_word, Version_bytes}
use Rattle.httparse.proofs.RunLemmas.{run_unique, run_unstopped}
use Rattle.web_messages.specs.declared.target.Place.TheVariants.{Start}
use Rattle.web_messages.specs.Streams.{IsBad, IsOpen}
use Rattle.web_messages.specs.Targets.{is_target, place_from}
use Rattle.web_messages.proofs.HeadLemmas.{never_has}
use Rattle.web_messages.proofs.InTargets.{inside_of, outside_of}

-- what stands at the front of a text: a piece, what may still become one, or what never will
pub data Found {A : Type 0} (G : Piece A) (Open : List ℕ → Type 0) (text : List ℕ) : Type 0 where
  here : (a : A) (rest : List ℕ) → G a text rest → Found G Open text
  cut : NotYet (Begins G) text → Open text → Found G Open text
  never : Never (Begins G) text → Found G Open text

-- what is cut short, told in other words
opened_as : {A : Type 0} (G : Piece A) (P Q : List ℕ → Type 0) (text : List ℕ) → (P text → Q text) → Found G P text → Found G Q text
opened_as G P Q text f (here a rest p) = here a rest p
opened_as G P Q text f (cut none still) = cut none (f still)
opened_as G P Q text f (never none) = never none

-- one piece after another

after : {A B : Type 0} (G : Piece A) (H : Piece B) → IsDeterministic G → (a : A) (s t : List ℕ) → G a s t
    → Found H (Completes H) t → Found (Then G H) (Completes (Then G H)) s
after G H det a s t read (here b rest r) = here (a, b) rest (t, read, r)
after G H det a s t read (cut none still) = cut (Refutes_next H det {a = a} read none) (Completes_next det {a = a} read still)
after G H det a s t read (never none) = never (Refutes_next H det {a = a} read none)

then_found : {A B : Type 0} (G : Piece A) (H : Piece B) → IsDeterministic G → Completes H [] → ((t : List ℕ) → Found H (Completes H) t)
    → (s : List ℕ) → Found G (Completes G) s → Found (Then G H) (Completes (Then G H)) s
then_found G H det least next s (here a t read) = after G H det a s t read (next t)
then_found G H det least next s (cut none still) = cut (Refutes_first G H none) (Completes_first still least)
then_found G H det least next s (never none) = never (Refutes_first G H none)

-- ---- bytes

first_same : (b c : ℕ) (xs ys : List ℕ) → b ∷ xs ≡ c ∷ ys → b ≡ c
first_same b c xs ys e = cc

rest_same : (b c : ℕ) (xs ys : List ℕ) → b ∷ xs ≡ c ∷ ys → xs ≡ ys
rest_same b c xs ys e = cc

not_nothing : (c : ℕ) (xs : List ℕ) → [] ≡ c ∷ xs → ⊥
not_nothing c xs e = cc

-- a word of bytes needs its rest
bytes_need : {M : List ℕ → Type 0} (c : ℕ) (cs : List ℕ) (b : ℕ) (text : List ℕ)
    → Refutes M (Begins (Bytes cs)) text → Refutes M (Begins (Bytes (c ∷ cs))) (b ∷ text)
bytes_need c cs b text = Refutes_by λ more h. (tt, h.1, rest_same b c (text ++ more) (cs ++ h.1) h.2)

bytes_by : (c : ℕ) (cs : List ℕ) (b : ℕ) (text : List ℕ) → (b ≡ c) ⊎ (b ≡ c → ⊥) → Found (Bytes cs) (Completes (Bytes cs)) text
    → Found (Bytes (c ∷ cs)) (Completes (Bytes (c ∷ cs))) (b ∷ text)
bytes_by c cs b text (inl e) (here u rest p) = here tt rest (λ i. e i ∷ p i)
bytes_by c cs b text (inl e) (cut none still) =
    cut (bytes_need c cs b text none) (record { more = still.more; tree = tt; reads = λ rest. λ i. e i ∷ still.reads rest i })
bytes_by c cs b text (inl e) (never none) = never (bytes_need c cs b text none)
bytes_by c cs b text (inr other) found = never (Never_intro λ more h. other (first_same b c (text ++ more) (cs ++ h.1) h.2))

bytes_found : (bytes text : List ℕ) → Found (Bytes bytes) (Completes (Bytes bytes)) text
bytes_found [] text = here tt text refl
bytes_found (c ∷ cs) [] = cut (NotYet_intro λ h. not_nothing c (cs ++ h.1) h.2) (some_bytes (c ∷ cs))
bytes_found (c ∷ cs) (b ∷ text) = bytes_by c cs b text (cases_eq b c) (bytes_found cs text)

-- ---- line ends

newline_first : (e : LineEnd) (b : ℕ) (text rest : List ℕ) → Newline e (b ∷ text) rest → (b ≡ 10) ⊎ ((b ≡ 13) × (text ≡ 10 ∷ rest))
newline_first crlf b text rest p = inr (first_same b 13 text (10 ∷ rest) p, rest_same b 13 text (10 ∷ rest) p)
newline_first lf b text rest p = inl (first_same b 10 text rest p)

newline_of_nothing : (e : LineEnd) (rest : List ℕ) → Newline e [] rest → ⊥
newline_of_nothing crlf rest h = not_nothing 13 (10 ∷ rest) h
newline_of_nothing lf rest h = not_nothing 10 rest h

neither : (b : ℕ) (text : List ℕ) → (b ≡ 10 → ⊥) → (b ≡ 13 → ⊥) → Begins Newline (b ∷ text) → ⊥
neither b text other another h =
    elim (newline_first h.0 b text h.1 h.2) [ inl e ↦ other e | inr p ↦ another p.0 ]

after_return_by : (b c : ℕ) (text : List ℕ) → b ≡ 13 → (c ≡ 10) ⊎ (c ≡ 10 → ⊥) → Found Newline (Completes Newline) (b ∷ c ∷ text)
after_return_by b c text e (inl f) = here crlf text (λ i. e i ∷ f i ∷ text)
after_return_by b c text e (inr other) = never (Never_intro λ more h.
    elim (newline_first h.0 b (c ∷ (text ++ more)) h.1 h.2)
    [ inl f ↦ omega (arith, e, f) | inr p ↦ other (first_same c 10 (text ++ more) h.1 p.1) ])

after_return : (b : ℕ) (text : List ℕ) → b ≡ 13 → Found Newline (Completes Newline) (b ∷ text)
after_return b [] e =
    cut (NotYet_intro λ h. elim (newline_first h.0 b [] h.1 h.2) [ inl f ↦ omega (arith, e, f) | inr p ↦ not_nothing 10 h.1 p.1 ])
    (Newline_after_cr (ap (λ (c : ℕ). c ∷ []) e))
after_return b (c ∷ text) e = after_return_by b c text e (cases_eq c 10)

newline_by : (b : ℕ) (text : List ℕ) → (b ≡ 10) ⊎ (b ≡ 10 → ⊥) → (b ≡ 13) ⊎ (b ≡ 13 → ⊥) → Found Newline (Completes Newline) (b ∷ text)
newline_by b text (inl e) y = here lf text (ap (λ (c : ℕ). c ∷ text) e)
newline_by b text (inr other) (inl e) = after_return b text e
newline_by b text (inr other) (inr another) = never (Never_intro λ more h. neither b (text ++ more) other another h)

newline_found : (text : List ℕ) → Found Newline (Completes Newline) text
newline_found [] = cut (NotYet_intro λ h. newline_of_nothing h.0 h.1 h.2) some_newline
newline_found (b ∷ text) = newline_by b text (cases_eq b 10) (cases_eq b 13)

end_some : (e : LineEnd) → 0 < length (print_end e)
end_some crlf = omega arith
end_some lf = omega arith

newline_shorter : (e : LineEnd) (text rest : List ℕ) → Newline e text rest → length rest < length text
newline_shorter e text rest p = omega (arith, end_some e, ap length p, length-append (print_end e) rest)

-- ---- runs and words

-- all bytes of a text pass a test, or there is a first one that fails
data Cut (test : ℕ → Bool) (text : List ℕ) : Type 0 where
  all : AllPass test text → Cut test text
  some : (run : List ℕ) (b : ℕ) (rest : List ℕ) → AllPass test run → test b ≡ false → text ≡ run ++ b ∷ rest → Cut test text

cut_by : (test : ℕ → Bool) (b : ℕ) (text : List ℕ) (t : Bool) → test b ≡ t → Cut test text → Cut test (b ∷ text)
cut_by test b text true e (all p) = all (All-cons (λ v. test v ≡ true) b text e p)
cut_by test b text true e (some run c rest p f is) =
    some (b ∷ run) c rest (All-cons (λ v. test v ≡ true) b run e p) f (ap (λ (l : List ℕ). b ∷ l) is)
cut_by test b text false e found = some [] b text (All-nil (λ v. test v ≡ true)) e refl

cut_run : (test : ℕ → Bool) (text : List ℕ) → Cut test text
cut_run test [] = all (All-nil (λ v. test v ≡ true))
cut_run test (b ∷ text) = cut_by test b text (test b) refl (cut_run test text)

module _ (test : ℕ → Bool) (stop : ℕ) (fails : test stop ≡ false) where
  -- the word at the front is the run, and the byte behind it is its stop
  word_only : (text run : List ℕ) (b : ℕ) (rest : List ℕ) → AllPass test run → test b ≡ false → text ≡ run ++ b ∷ rest
      → (b ≡ stop → 0 < length run → ⊥) → Never (Begins (Word test stop)) text
  word_only text run b rest p f is wrong = Never_intro λ more h.
      let same = run_unique test run h.0 (b ∷ (rest ++ more)) (stop ∷ h.1) p h.2.1 f fails (sym (front-append text run (b ∷ rest) more is) ∙ h.2.2) in
      wrong (first_same b stop (rest ++ more) h.1 same.1) (subst (λ (w : List ℕ). 0 < length w) (sym same.0) h.2.0)

  word_at : (text run : List ℕ) (b : ℕ) (rest : List ℕ) → AllPass test run → test b ≡ false → text ≡ run ++ b ∷ rest
      → (b ≡ stop) ⊎ (b ≡ stop → ⊥) → (0 < length run) ⊎ (length run ≤ 0) → Found (Word test stop) (AllPass test) text
  word_at text run b rest p f is (inl e) (inl long) = here run rest (long, p, is ∙ ap (λ (c : ℕ). run ++ c ∷ rest) e)
  word_at text run b rest p f is (inl e) (inr none) = never (word_only text run b rest p f is (λ same long. omega (arith, none, long)))
  word_at text run b rest p f is (inr other) long = never (word_only text run b rest p f is (λ same _. other same))

  word_by : (text : List ℕ) → Cut test text → Found (Word test stop) (AllPass test) text
  word_by text (all p) = cut (NotYet_intro λ h. run_unstopped test h.0 (stop ∷ h.1) (subst (AllPass test) h.2.2 p) fails) p
  word_by text (some run b rest p f is) = word_at text run b rest p f is (cases_eq b stop) (cases_lt 0 (length run))

  word_found : (text : List ℕ) → Found (Word test stop) (AllPass test) text
  word_found text = word_by text (cut_run test text)

method_found : (text : List ℕ) → Found Method (Completes Method) text
method_found text =
    opened_as Method (AllPass is_token_byte) (Completes Method) text (λ passes. Word_cut is_token_byte 32 65 letter_is_token passes)
    (word_found is_token_byte 32 space_ends_token text)

-- ---- targets

target_by : (text w rest : List ℕ) → Word is_uri_byte 32 w text rest → (u : Bool) → is_utf8 w ≡ u → Found Target (AllPass is_uri_byte) text
target_by text w rest p true u = here w rest (p, IsUtf8-from_is_utf8 w u)
target_by text w rest p false u = never (Never_intro λ more h.
    let word = Word_deterministic is_uri_byte 32 refl in
    let same = word.unique h.0 w (text ++ more) h.1 (rest ++ more) h.2.0 (word.append w text rest more p) in
    both_ways (is_utf8 w) u (is_utf8-from_IsUtf8 w (subst IsUtf8 same.0 h.2.1)))

target_of : (text : List ℕ) → Found (Word is_uri_byte 32) (AllPass is_uri_byte) text → Found Target (AllPass is_uri_byte) text
target_of text (here w rest p) = target_by text w rest p (is_utf8 w) refl
target_of text (cut none passes) = cut (Target_word none) passes
target_of text (never none) = never (Target_word none)

target_found : (text : List ℕ) → Found Target (AllPass is_uri_byte) text
target_found text = target_of text (word_found is_uri_byte 32 refl text)

-- ---- versions

abbrev protocol : List ℕ
protocol = codes "HTTP/1."

version_only : (text : List ℕ) (d : ℕ) (rest : List ℕ) → text ≡ protocol ++ d ∷ rest → ((m : ℕ) → m ≤ 1 → d ≡ 48 + m → ⊥) → Never (Begins Version) text
version_only text d rest p wrong = Never_intro λ more h.
    let e : protocol ++ (d ∷ (rest ++ more)) ≡ protocol ++ ((48 + h.0) ∷ h.1) = sym (front-append text protocol (d ∷ rest) more p) ∙ h.2.1 in
    wrong h.0 h.2.0
    (first_same d (48 + h.0) (rest ++ more) h.1 (append_cancel_left protocol (d ∷ (rest ++ more)) ((48 + h.0) ∷ h.1) e))

version_by : (text : List ℕ) (d : ℕ) (rest : List ℕ) → text ≡ protocol ++ d ∷ rest → (d < 48) ⊎ (48 ≤ d) → (d < 50) ⊎ (50 ≤ d)
    → Found Version (Completes Version) text
version_by text d rest p (inl low) high = never (version_only text d rest p (λ m l e. omega (arith, low, e)))
version_by text d rest p (inr low) (inl high) =
    let is : d ≡ 48 + (d - 48) = omega (arith, low) in
    here (d - 48) rest (omega (arith, low, high), p ∙ ap (λ (c : ℕ). protocol ++ c ∷ rest) is)
version_by text d rest p (inr low) (inr high) = never (version_only text d rest p (λ m l e. omega (arith, high, l, e)))

version_digit : (text rest : List ℕ) → text ≡ protocol ++ rest → Found Version (Completes Version) text
version_digit text [] p =
    cut (NotYet_intro λ h.
    let e : protocol ++ [] ≡ protocol ++ ((48 + h.0) ∷ h.1) = sym p ∙ h.2.1 in
    not_nothing (48 + h.0) h.1 (append_cancel_left protocol [] ((48 + h.0) ∷ h.1) e))
    (Version_before_digit p refl)
version_digit text (d ∷ rest) p = version_by text d rest p (cases_lt d 48) (cases_lt d 50)

version_of : (text : List ℕ) → Found (Bytes protocol) (Completes (Bytes protocol)) text → Found Version (Completes Version) text
version_of text (here u rest p) = version_digit text rest p
version_of text (cut none still) = cut (Version_bytes none) (Version_after_bytes still)
version_of text (never none) = never (Version_bytes none)

version_found : (text : List ℕ) → Found (Then Version Newline) (Completes (Then Version Newline)) text
version_found text = then_found Version Newline Version_deterministic some_newline newline_found text (version_of text (bytes_found protocol text))

-- ---- empty lines

one_line : (e : LineEnd) (text rest : List ℕ) → Newline e text rest → text ≡ print_blank (e ∷ []) ++ rest
one_line e text rest p = p ∙ ap (λ (l : List ℕ). l ++ rest) (sym (append-nil (print_end e)))

lines_more : (e : LineEnd) (text rest : List ℕ) → Newline e text rest → Completes BlankLines rest → Completes BlankLines text
lines_more e text rest p x = record {
  more = x.more;
  tree = e ∷ x.tree;
  reads = λ r.
      front-append text (print_end e) rest (x.more ++ r) p ∙ ap (λ (l : List ℕ). print_end e ++ l) (x.reads r)
      ∙ sym (append_assoc (print_end e) (print_blank x.tree) r);
}

blank_more : (e : LineEnd) (text rest : List ℕ) → Newline e text rest → Found Blank (Completes BlankLines) rest → Found Blank (Completes BlankLines) text
blank_more e text rest p (here es r q) =
    here (e ∷ es) r (p ∙ ap (λ (l : List ℕ). print_end e ++ l) q.0 ∙ sym (append_assoc (print_end e) (print_blank es) r), q.1)
blank_more e text rest p (cut none still) = cut (Blank_after (e ∷ []) (one_line e text rest p) none) (lines_more e text rest p still)
blank_more e text rest p (never none) = never (Blank_after (e ∷ []) (one_line e text rest p) none)

blank_by : (b : ℕ) (text : List ℕ) (t : Bool) → is_newline b ≡ t → Found Newline (Completes Newline) (b ∷ text)
    → ((rest : List ℕ) → length rest < length (b ∷ text) → Found Blank (Completes BlankLines) rest) → Found Blank (Completes BlankLines) (b ∷ text)
blank_by b text false is found next = here [] (b ∷ text) (refl, is)
blank_by b text true is (here e rest p) next = blank_more e (b ∷ text) rest p (next rest (newline_shorter e (b ∷ text) rest p))
blank_by b text true is (cut none still) next = cut (Blank_newline (b ∷ text) 0 (omega arith) is none) (BlankLines_after [] refl still)
blank_by b text true is (never none) next = never (Blank_newline (b ∷ text) 0 (omega arith) is none)

blank_found : (n : ℕ) (text : List ℕ) → length text ≤ n → Found Blank (Completes BlankLines) text
blank_found n [] l = cut (Blank_open [] 0 (omega arith)) (record { more = []; tree = []; reads = λ r. refl })
blank_found zero (b ∷ text) l = absurd (omega (arith, l))
blank_found (suc n) (b ∷ text) l =
    blank_by b text (is_newline b) refl (newline_found (b ∷ text)) (λ rest less. blank_found n rest (omega (arith, less, l)))

-- ---- field lines

text_needs : {M : List ℕ → Type 0} (text run : List ℕ) (b : ℕ) (rest : List ℕ) → AllPass is_value_byte run → is_value_byte b ≡ false
    → text ≡ run ++ b ∷ rest → Refutes M (Begins Newline) (b ∷ rest) → Refutes M (Begins Text) text
text_needs text run b rest p f is = Refutes_by λ more h. (
  h.0.1,
  h.1,
  (run_unique is_value_byte run h.0.0 (b ∷ (rest ++ more)) (print_end h.0.1 ++ h.1) p h.2.0 f (Stops_value h.0.1 h.1)
      (sym (front-append text run (b ∷ rest) more is) ∙ h.2.1)).1,
)

text_end : (text run : List ℕ) (b : ℕ) (rest : List ℕ) → AllPass is_value_byte run → is_value_byte b ≡ false
    → text ≡ run ++ b ∷ rest → Found Newline (Completes Newline) (b ∷ rest) → Found Text (Completes Text) text
text_end text run b rest p f is (here e r q) = here (run, e) r (p, is ∙ ap (λ (l : List ℕ). run ++ l) q)
text_end text run b rest p f is (cut none still) =
    cut (text_needs text run b rest p f is none) (record {
      more = still.more;
      tree = (run, still.tree);
      reads = λ r. (p, front-append text run (b ∷ rest) (still.more ++ r) is ∙ ap (λ (l : List ℕ). run ++ l) (still.reads r));
    })
text_end text run b rest p f is (never none) = never (text_needs text run b rest p f is none)

text_by : (text : List ℕ) → Cut is_value_byte text → Found Text (Completes Text) text
text_by text (all p) =
    cut (NotYet_intro λ h. run_unstopped is_value_byte h.0.0 (print_end h.0.1 ++ h.1) (subst (AllPass is_value_byte) h.2.1 p) (Stops_value h.0.1 h.1))
    (record { more = 10 ∷ []; tree = (text, lf); reads = λ rest. (p, refl) })
text_by text (some run b rest p f is) = text_end text run b rest p f is (newline_found (b ∷ rest))

text_found : (text : List ℕ) → Found Text (Completes Text) text
text_found text = text_by text (cut_run is_value_byte text)

abbrev Name : Piece (List ℕ)
Name = Word is_token_byte 58

field_of : (text : List ℕ) → Found (Then Name Text) (Completes (Then Name Text)) text → Found FieldLine (Completes FieldLine) text
field_of text (here a rest p) =
    here (record { name = a.0; raw = a.1.0; end = a.1.1 }) rest (FieldLine_done a.0 a.1.0 a.1.1 text p.0 rest p.1 p.2)
field_of text (cut none still) = cut (FieldLine_row none) (FieldLine_of_row still)
field_of text (never none) = never (FieldLine_row none)

field_found : (text : List ℕ) → Found FieldLine (Completes FieldLine) text
field_found text =
    field_of text (then_found Name Text Name_deterministic some_text text_found text
    (opened_as Name (AllPass is_token_byte) (Completes Name) text (λ passes. Word_cut is_token_byte 58 65 letter_is_token passes)
    (word_found is_token_byte 58 colon_ends_token text)))

field_shorter : (f : Field) (text rest : List ℕ) → FieldLine f text rest → length rest < length text
field_shorter f text rest p =
    let tail = f.raw ++ (print_end f.end ++ rest) in
    let e : text ≡ f.name ++ 58 ∷ tail = p.1 ∙ print_field-append f rest in
    omega (arith, ap length e, length-append f.name (58 ∷ tail), length-append f.raw (print_end f.end ++ rest), length-append (print_end f.end) rest)

-- ---- sections

one_field : (f : Field) (text rest : List ℕ) → FieldLine f text rest → FieldLines (f ∷ []) text rest
one_field f text rest p =
    (All-cons IsField f [] p.0 (All-nil IsField), p.1 ∙ ap (λ (l : List ℕ). l ++ rest) (sym (append-nil (print_field f))))

section_needs : {M : List ℕ → Type 0} (f : Field) (text rest : List ℕ) → FieldLine f text rest
    → Refutes M (Begins Section) rest → Refutes M (Begins Section) text
section_needs f text rest p = Refutes_by λ more h.
    let skipped = Section_skip (f ∷ []) h.0.0 h.0.1 (text ++ more) (rest ++ more) h.1 (FieldLines-append (f ∷ []) text rest more (one_field f text rest p)) h.2 in
    ((skipped.0, h.0.1), h.1, skipped.2)

section_read : (f : Field) (fs : List Field) (last : LineEnd) (text rest left : List ℕ) → FieldLine f text rest
    → Section (fs, last) rest left → Section (f ∷ fs, last) text left
section_read f fs last text rest left p q =
    let lines = flat_map print_field fs in (
      All-cons IsField f fs p.0 q.0,
      p.1 ∙ ap (λ (l : List ℕ). print_field f ++ l) q.1 ∙ sym (append_assoc (print_field f) (lines ++ print_end last) left)
          ∙ ap (λ (l : List ℕ). l ++ left) (sym (append_assoc (print_field f) lines (print_end last))),
    )

section_more : (f : Field) (text rest : List ℕ) → FieldLine f text rest → Found Section (Completes Section) rest → Found Section (Completes Section) text
section_more f text rest p (here s left q) = here (f ∷ s.0, s.1) left (section_read f s.0 s.1 text rest left p q)
section_more f text rest p (cut none still) = cut (section_needs f text rest p none) (Section_after_lines (f ∷ []) (one_field f text rest p) still)
section_more f text rest p (never none) = never (section_needs f text rest p none)

-- the section begins here
no_lines : (text : List ℕ) → FieldLines [] text text
no_lines text = (All-nil IsField, refl)

section_end : (b : ℕ) (text : List ℕ) → is_newline b ≡ true → Found Newline (Completes Newline) (b ∷ text) → Found Section (Completes Section) (b ∷ text)
section_end b text is (here e rest p) = here ([], e) rest (All-nil IsField, p)
section_end b text is (cut none still) =
    cut (Section_after [] (no_lines (b ∷ text)) (BeginsLine_either none (FieldLine_at_newline _ (b ∷ text) 0 (omega arith) is)))
    (Section_of_line (inl still))
section_end b text is (never none) =
    never (Section_after [] (no_lines (b ∷ text)) (BeginsLine_either none (FieldLine_at_newline _ (b ∷ text) 0 (omega arith) is)))

section_line : (b : ℕ) (text : List ℕ) → is_newline b ≡ false → Found FieldLine (Completes FieldLine) (b ∷ text)
    → ((rest : List ℕ) → length rest < length (b ∷ text) → Found Section (Completes Section) rest) → Found Section (Completes Section) (b ∷ text)
section_line b text is (here f rest p) next = section_more f (b ∷ text) rest p (next rest (field_shorter f (b ∷ text) rest p))
section_line b text is (cut none still) next =
    cut (Section_after [] (no_lines (b ∷ text)) (BeginsLine_either (Newline_at_other _ (b ∷ text) 0 (omega arith) is) none))
    (Section_of_line (inr still))
section_line b text is (never none) next =
    never (Section_after [] (no_lines (b ∷ text)) (BeginsLine_either (Newline_at_other _ (b ∷ text) 0 (omega arith) is) none))

section_by : (b : ℕ) (text : List ℕ) (t : Bool) → is_newline b ≡ t
    → ((rest : List ℕ) → length rest < length (b ∷ text) → Found Section (Completes Section) rest) → Found Section (Completes Section) (b ∷ text)
section_by b text true is next = section_end b text is (newline_found (b ∷ text))
section_by b text false is next = section_line b text is (field_found (b ∷ text)) next

section_found : (n : ℕ) (text : List ℕ) → length text ≤ n → Found Section (Completes Section) text
section_found n [] l = cut (Section_after [] (no_lines []) (BeginsLine_open [] 0 (omega arith))) some_section
section_found zero (b ∷ text) l = absurd (omega (arith, l))
section_found (suc n) (b ∷ text) l = section_by b text (is_newline b) refl (λ rest less. section_found n rest (omega (arith, less, l)))

-- ---- heads

module _ (s : List ℕ) (es : List LineEnd) (t : List ℕ) (blank : Blank es s t) where
  start_version : (m u : List ℕ) → Method m t u → (x v : List ℕ) → Target x u v
      → Found (Then Version Newline) (Completes (Then Version Newline)) v → Found RequestStart MayBecomeRequestStart s
  start_version m u method x v target (here vn w z) = here (es, (m, (x, vn))) w (t, blank, (u, method, (v, target, z)))
  start_version m u method x v target (cut none still) =
      cut (Refutes_next (Then Method (Then Target (Then Version Newline))) Blank_deterministic {a = es} blank
      (Refutes_next (Then Target (Then Version Newline)) Method_deterministic {a = m} method
      (Refutes_next (Then Version Newline) Target_deterministic {a = x} target none))) (inl (line_version es m x blank method target still))
  start_version m u method x v target (never none) =
      never (Refutes_next (Then Method (Then Target (Then Version Newline))) Blank_deterministic {a = es} blank
      (Refutes_next (Then Target (Then Version Newline)) Method_deterministic {a = m} method
      (Refutes_next (Then Version Newline) Target_deterministic {a = x} target none)))

  start_target : (m u : List ℕ) → Method m t u → Found Target (AllPass is_uri_byte) u → Found RequestStart MayBecomeRequestStart s
  start_target m u method (here x v target) = start_version m u method x v target (version_found v)
  start_target m u method (cut none passes) = cut (request_target es m blank method none) (inr (ends_in_target es m u blank method passes))
  start_target m u method (never none) = never (request_target es m blank method none)

  start_method : Found Method (Completes Method) t → Found RequestStart MayBecomeRequestStart s
  start_method (here m u method) = start_target m u method (target_found u)
  start_method (cut none still) = cut (request_method es blank none) (inl (line_method es blank still))
  start_method (never none) = never (request_method es blank none)

start_of : (s : List ℕ) → Found Blank (Completes BlankLines) s → Found RequestStart MayBecomeRequestStart s
start_of s (here es t blank) = start_method s es t blank (method_found t)
start_of s (cut none still) = cut (request_blank none) (inl (line_blank still))
start_of s (never none) = never (request_blank none)

head_section : (s : List ℕ) (line : List LineEnd × (List ℕ × (List ℕ × (ℕ × LineEnd)))) (t : List ℕ) → RequestStart line s t
    → Found Section (Completes Section) t → Found (Then RequestStart Section) MayBecomeRequest s
head_section s line t p (here section rest q) = here (line, section) rest (t, p, q)
head_section s line t p (cut none still) =
    cut (Refutes_next Section RequestStart_deterministic {a = line} p none) (request_may (Completes_next RequestStart_deterministic {a = line} p still))
head_section s line t p (never none) = never (Refutes_next Section RequestStart_deterministic {a = line} p none)

head_of : (s : List ℕ) → Found RequestStart MayBecomeRequestStart s → Found (Then RequestStart Section) MayBecomeRequest s
head_of s (here line t p) = head_section s line t p (section_found (length t) t (omega arith))
head_of s (cut none still) = cut (Refutes_first RequestStart Section none) (request_may_from_line still)
head_of s (never none) = never (Refutes_first RequestStart Section none)

-- what stands at the front of some bytes: a head, what is still open, or what is bad
pub data Stands (bytes : List ℕ) : Type 0 where
  head : (h : RequestHead) (rest : List ℕ) → ReadsRequest bytes h rest → Stands bytes
  still : IsOpen bytes → Stands bytes
  bad : IsBad bytes → Stands bytes

by_place : (bytes : List ℕ) → NeverHasRequest bytes → (t : Bool) → is_target (place_from Start bytes) ≡ t → Stands bytes
by_place bytes none true e = still (record { none = never_has bytes none; open_still = inr (inside_of bytes e) })
by_place bytes none false e = bad (record { never = none; outside = outside_of bytes e })

stands_by : (bytes : List ℕ) → Found (Then RequestStart Section) MayBecomeRequest bytes → Stands bytes
stands_by bytes (here t rest p) = head (request_head t) rest (request_from_pieces bytes t rest p)
stands_by bytes (cut none may) = still (record { none = request_not_yet none; open_still = inl may })
stands_by bytes (never none) = by_place bytes (request_never none) (is_target (place_from Start bytes)) refl

pub what_stands : (bytes : List ℕ) → Stands bytes
what_stands bytes = stands_by bytes (head_of bytes (start_of bytes (blank_found (length bytes) bytes (omega arith))))
