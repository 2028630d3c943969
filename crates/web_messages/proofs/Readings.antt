-- A stream has one reading: its messages and its ending are determined.
use Rattle.std.proofs.Common.{◌≡◌, ℕ, ◌+◌, ◌-◌, ◌<◌, ◌≤◌, false, cond, List, [], ◌∷◌, ◌++◌, length, take, drop, Option, Some, None, refl, ap, sym, ◌∙◌, subst, inl, inr, arith, append_assoc, length-append, append-nil, ltb, ◌||◌, ◌==◌}
use Rattle.std.proofs.lemmas.Bool.Decides.{nat_tests}
use Rattle.std.proofs.lemmas.List.Elements.{All-head, All-tail, All-nil, All-cons}
use Rattle.std.proofs.Math.Seq.{take-append_seam, drop-append_seam, take-append-add}
use Rattle.std.specs.List.{flat_map, All}
use Rattle.std.specs.Bool.{IsTrue}
use Rattle.httparse.specs.Grammar.{lf, is_token_byte, is_uri_byte, IsField, RequestHead, IsRequestHead, print_request, ReadsRequest}
use Rattle.httparse.proofs.GrammarLemmas.{request_unique}
use Rattle.web_messages.specs.Fields.{fields_of, body_length, closes}
use Rattle.web_messages.specs.Streams.{Message, message_bytes, IsWhole, IsBad, IsOpen, BeginsWith, is_last, Ending, over, last, unframed, bad_head, long_head, long_body, cut_body, cut_head, EndsSo, Messages, most_head, most_fields, most_body, most_messages, front}
use Rattle.web_messages.proofs.InTargets.{in_target_of}
use Rattle.web_messages.proofs.ReceiptLemmas.{front_all}

-- bytes aren't both bad and open
pub not_both : (bytes : List ℕ) → IsBad bytes → IsOpen bytes → ⊥
not_both bytes bad still =
    elim still.open_still [
      | inl may ↦ elim may [
        | inl becomes ↦ bad.never becomes.0 becomes.1 [] becomes.2
        | inr inside ↦ bad.outside (in_target_of bytes inside)
      ]
      | inr inside ↦ bad.outside inside
    ]

-- a head has bytes
head_some : (h : RequestHead) → 0 < length (print_request h)
unfolding print_request
head_some h = simp length-append (omega arith)

-- a head within the limit stands in the front
in_front : (rest more : List ℕ) (h : RequestHead) → ReadsRequest rest h more → length (print_request h) ≤ most_head
    → (x : List ℕ) × ReadsRequest (front rest) h x
in_front rest more h reads l =
    let room = most_head - length (print_request h) in
    let e : most_head ≡ length (print_request h) + room = omega arith in (
      take room more,
      (reads.0, ap front reads.1 ∙ ap (λ n. take n (print_request h ++ more)) e ∙ take-append-add (print_request h) more room),
    )

-- the shortest head
abbrev shortest : RequestHead
shortest = record { blank = []; method = 71 ∷ []; target = 47 ∷ []; minor = 1; line_end = lf; fields = []; last = lf }

shortest_is : IsRequestHead shortest
unfolding is_token_byte lib.Utf8.encode
shortest_is = record {
  method = (omega arith, All-cons (λ b. IsTrue (is_token_byte b)) 71 [] refl (All-nil (λ b. IsTrue (is_token_byte b))));
  target = (omega arith, All-cons (λ b. IsTrue (is_uri_byte b)) 47 [] refl (All-nil (λ b. IsTrue (is_uri_byte b))));
  target_text = (47 ∷ [], (refl, refl));
  minor = omega arith;
  fields = All-nil IsField;
}

-- no bytes aren't bad
not_empty : IsBad [] → ⊥
not_empty bad = bad.never (print_request shortest) shortest [] (shortest_is, sym (append-nil (print_request shortest)))

-- the ending where a head within the limits stands, by what it says and what comes after it
abbrev pub by_said : Option ℕ → RequestHead → List ℕ → Ending
by_said None h more = unframed
by_said (Some said) h more =
    cond (ltb most_body said) (long_body said)
    (cond (ltb (length more) said) (cut_body (length more) said) (last (record { head = h; body = take said more })))

abbrev pub by_head : RequestHead → List ℕ → Ending
by_head h more = by_said (body_length (fields_of h)) h more

-- what stands at the front of the rest of a stream, and the ending that it makes
pub data Site (rest : List ℕ) (e : Ending) : Type 0 where
  nothing : rest ≡ [] → e ≡ over → Site rest e
  short : (h : RequestHead) (more : List ℕ) → BeginsWith rest h more → e ≡ by_head h more → Site rest e
  many : (h : RequestHead) (more : List ℕ) → ReadsRequest rest h more → length (print_request h) ≤ most_head → most_fields < length h.fields
      → e ≡ long_head → Site rest e
  bad : IsBad (front rest) → e ≡ bad_head → Site rest e
  full : IsOpen (front rest) → most_head ≤ length rest → e ≡ long_head → Site rest e
  cut : IsOpen rest → 0 < length rest → length rest < most_head → e ≡ cut_head (length rest) → Site rest e

by_long : (h : RequestHead) (more : List ℕ) (said : ℕ) → most_body < said → by_said (Some said) h more ≡ long_body said
by_long h more said l = grind (arith, nat_tests)

by_cut : (h : RequestHead) (more : List ℕ) (said : ℕ) → said ≤ most_body → length more < said → by_said (Some said) h more ≡ cut_body (length more) said
by_cut h more said l s = grind (arith, nat_tests)

by_last : (h : RequestHead) (more : List ℕ) (said : ℕ) → said ≤ most_body → said ≤ length more
    → by_said (Some said) h more ≡ last (record { head = h; body = take said more })
by_last h more said l s = grind (arith, nat_tests)

-- the front of a whole message
whole_site : (m : Message) (more : List ℕ) → IsWhole m → by_head m.head (m.body ++ more) ≡ last m
whole_site m more w =
    ap (λ s. by_said s m.head (m.body ++ more)) w.said
    ∙ by_last m.head (m.body ++ more) (length m.body) w.bounded (omega (arith, length-append m.body more))
    ∙ ap (λ b. last (record { head = m.head; body = b })) (take-append_seam m.body more)

whole_begins : (rest more : List ℕ) (m : Message) → IsWhole m → rest ≡ message_bytes m ++ more → BeginsWith rest m.head (m.body ++ more)
whole_begins rest more m w e = ((w.head, e ∙ append_assoc (print_request m.head) m.body more), w.short)

site_of : (count : ℕ) (rest : List ℕ) (e : Ending) → EndsSo count rest e → Site rest e
site_of count rest over p = nothing p refl
site_of count rest (last m) p = short m.head (m.body ++ p.0) (whole_begins rest p.0 m p.2 p.1) (sym (whole_site m p.0 p.2))
site_of count rest unframed p = short p.0 p.1 p.2 (sym (ap (λ s. by_said s p.0 p.1) p.3))
site_of count rest bad_head p = bad p refl
site_of count rest long_head p =
    elim p [ inl still ↦ full still.0 still.1 refl | inr head ↦ many head.0 head.1 head.2 head.3 head.4 refl ]
site_of count rest (long_body said) p = short p.0 p.1 p.2 (sym (ap (λ s. by_said s p.0 p.1) p.3 ∙ by_long p.0 p.1 said p.4))
site_of count rest (cut_body had said) p =
    short p.0 p.1 p.2 (ap (λ n. cut_body n said) p.6 ∙ sym (ap (λ s. by_said s p.0 p.1) p.3 ∙ by_cut p.0 p.1 said p.4 p.5))
site_of count rest (cut_head had) p = cut p.0 p.1 p.2 (ap cut_head p.3)

-- where a head within the limits stands, it makes the ending
short_only : (rest more : List ℕ) (h : RequestHead) (e : Ending) → BeginsWith rest h more → Site rest e → e ≡ by_head h more
short_only rest more h e p (nothing none is) = absurd (omega (arith, head_some h, ap length none, ap length p.0.1, length-append (print_request h) more))
short_only rest more h e p (short k other q is) =
    let same = request_unique rest k h other more q.0 p.0 in
    is ∙ ap (λ x. by_head x other) same.0 ∙ ap (λ x. by_head h x) same.1
short_only rest more h e p (many k other q l few is) =
    let same = request_unique rest k h other more q p.0 in
    absurd (omega (arith, few, p.1.fields, ap (λ x. length x.fields) same.0))
short_only rest more h e p (bad b is) =
    let f = in_front rest more h p.0 p.1.bytes in
    absurd (b.never [] h f.0 (f.1.0, append-nil (front rest) ∙ f.1.1))
short_only rest more h e p (full still l is) =
    let f = in_front rest more h p.0 p.1.bytes in
    absurd (still.none h f.0 f.1)
short_only rest more h e p (cut still some l is) = absurd (still.none h more p.0)

-- where a head with too many fields stands, the head is long
many_only : (rest more : List ℕ) (h : RequestHead) (e : Ending) → ReadsRequest rest h more → length (print_request h) ≤ most_head
    → most_fields < length h.fields → Site rest e → e ≡ long_head
many_only rest more h e p l few (nothing none is) = absurd (omega (arith, head_some h, ap length none, ap length p.1, length-append (print_request h) more))
many_only rest more h e p l few (short k other q is) =
    let same = request_unique rest k h other more q.0 p in
    absurd (omega (arith, few, q.1.fields, ap (λ x. length x.fields) same.0))
many_only rest more h e p l few (many k other q s f is) = is
many_only rest more h e p l few (bad b is) =
    let f = in_front rest more h p l in
    absurd (b.never [] h f.0 (f.1.0, append-nil (front rest) ∙ f.1.1))
many_only rest more h e p l few (full still s is) = is
many_only rest more h e p l few (cut still some s is) = absurd (still.none h more p)

-- the other sites

nothing_only : (rest : List ℕ) (e : Ending) → rest ≡ [] → Site rest e → e ≡ over
nothing_only rest e none (nothing also is) = is
nothing_only rest e none (short h more p is) = absurd (omega (arith, head_some h, ap length none, ap length p.0.1, length-append (print_request h) more))
nothing_only rest e none (many h more p l few is) = absurd (omega (arith, head_some h, ap length none, ap length p.1, length-append (print_request h) more))
nothing_only rest e none (bad b is) = absurd (not_empty (subst IsBad (ap front none) b))
nothing_only rest e none (full still l is) = absurd (omega (arith, ap length none, l))
nothing_only rest e none (cut still some l is) = absurd (omega (arith, ap length none, some))

bad_only : (rest : List ℕ) (e : Ending) → IsBad (front rest) → Site rest e → e ≡ bad_head
bad_only rest e b (nothing none is) = absurd (not_empty (subst IsBad (ap front none) b))
bad_only rest e b (short h more p is) =
    let f = in_front rest more h p.0 p.1.bytes in
    absurd (b.never [] h f.0 (f.1.0, append-nil (front rest) ∙ f.1.1))
bad_only rest e b (many h more p l few is) =
    let f = in_front rest more h p l in
    absurd (b.never [] h f.0 (f.1.0, append-nil (front rest) ∙ f.1.1))
bad_only rest e b (bad also is) = is
bad_only rest e b (full still l is) = absurd (not_both (front rest) b still)
bad_only rest e b (cut still some l is) = absurd (not_both rest (subst IsBad (front_all rest (omega arith)) b) still)

full_only : (rest : List ℕ) (e : Ending) → IsOpen (front rest) → most_head ≤ length rest → Site rest e → e ≡ long_head
full_only rest e still l (nothing none is) = absurd (omega (arith, ap length none, l))
full_only rest e still l (short h more p is) =
    let f = in_front rest more h p.0 p.1.bytes in
    absurd (still.none h f.0 f.1)
full_only rest e still l (many h more p s few is) = is
full_only rest e still l (bad b is) = absurd (not_both (front rest) b still)
full_only rest e still l (full also s is) = is
full_only rest e still l (cut also some s is) = absurd (omega (arith, l, s))

cut_only : (rest : List ℕ) (e : Ending) → IsOpen rest → 0 < length rest → length rest < most_head → Site rest e → e ≡ cut_head (length rest)
cut_only rest e still some l (nothing none is) = absurd (omega (arith, ap length none, some))
cut_only rest e still some l (short h more p is) = absurd (still.none h more p.0)
cut_only rest e still some l (many h more p s few is) = absurd (still.none h more p)
cut_only rest e still some l (bad b is) = absurd (not_both rest (subst IsBad (front_all rest (omega arith)) b) still)
cut_only rest e still some l (full also s is) = absurd (omega (arith, l, s))
cut_only rest e still some l (cut also more s is) = is

-- two endings of one rest are one
pub one_ending : (rest : List ℕ) (e other : Ending) → Site rest e → Site rest other → e ≡ other
one_ending rest e other (nothing none is) s = is ∙ sym (nothing_only rest other none s)
one_ending rest e other (short h more p is) s = is ∙ sym (short_only rest more h other p s)
one_ending rest e other (many h more p l few is) s = is ∙ sym (many_only rest more h other p l few s)
one_ending rest e other (bad b is) s = is ∙ sym (bad_only rest other b s)
one_ending rest e other (full still l is) s = is ∙ sym (full_only rest other still l s)
one_ending rest e other (cut still some l is) s = is ∙ sym (cut_only rest other still some l s)

-- a message after which others are allowed is no ending
goes_on : (count : ℕ) (rest more : List ℕ) (m : Message) (e : Ending) → IsWhole m → rest ≡ message_bytes m ++ more → is_last count m ≡ false → EndsSo count rest e → ⊥
goes_on count rest more m e w b on p =
    let is : e ≡ last m = short_only rest (m.body ++ more) m.head e (whole_begins rest more m w b) (site_of count rest e p) ∙ whole_site m more w in
    let P : Ending → Type 0 = λ x. EndsSo count rest x in
    let ends = subst P is p in
    cc (on, ends.3)

last_same : (k m : Message) → last k ≡ last m → k ≡ m
last_same k m e = cc (e)

-- two whole messages at one place are one, and so are the bytes after them
one_message : (rest more other : List ℕ) (m k : Message) → IsWhole m → IsWhole k → rest ≡ message_bytes m ++ more → rest ≡ message_bytes k ++ other
    → (m ≡ k) × (more ≡ other)
one_message rest more other m k w v a b =
    let s = short_only rest (m.body ++ more) m.head (last k) (whole_begins rest more m w a)
    (short k.head (k.body ++ other) (whole_begins rest other k v b) (sym (whole_site k other v))) in
    let same : k ≡ m = last_same k m (s ∙ whole_site m more w) in (
      sym same,
      sym (drop-append_seam (message_bytes m) more) ∙ ap (λ l. drop (length (message_bytes m)) l) (sym a ∙ b ∙ ap (λ x. message_bytes x ++ other) same)
          ∙ drop-append_seam (message_bytes m) other,
    )

-- a message isn't the last where it says nothing and others may follow
not_last_of : (count : ℕ) (m : Message) → closes m.head ≡ false → count + 1 < most_messages → is_last count m ≡ false
not_last_of count m c l = ap (λ b. b || count + 1 == most_messages) c ∙ (let e : (count + 1 == most_messages) ≡ false = grind (arith, nat_tests) in e)

-- the same, from any message on
reads_same : (count : ℕ) (bytes : List ℕ) (before other : List Message) (rest other_rest : List ℕ) (e other_e : Ending)
    → bytes ≡ flat_map message_bytes before ++ rest → All IsWhole before → All (λ m. closes m.head ≡ false) before
    → count + length before < most_messages → EndsSo (count + length before) rest e
    → bytes ≡ flat_map message_bytes other ++ other_rest → All IsWhole other → All (λ m. closes m.head ≡ false) other
    → count + length other < most_messages → EndsSo (count + length other) other_rest other_e
    → (before ≡ other) × ((rest ≡ other_rest) × (e ≡ other_e))
reads_same count bytes [] [] rest other_rest e other_e a w c l p b v d k q =
    let same : other_rest ≡ rest = sym b ∙ a in
    let P : List ℕ → Type 0 = λ r. EndsSo (count + 0) r other_e in
    (refl, (sym same, one_ending rest e other_e (site_of (count + 0) rest e p) (site_of (count + 0) rest other_e (subst P same q))))
reads_same count bytes [] (m ∷ ms) rest other_rest e other_e a w c l p b v d k q =
    absurd (goes_on (count + 0) rest (flat_map message_bytes ms ++ other_rest) m e (All-head IsWhole m ms v)
    (sym a ∙ b ∙ append_assoc (message_bytes m) (flat_map message_bytes ms) other_rest)
    (not_last_of (count + 0) m (All-head (λ x. closes x.head ≡ false) m ms d) (omega (arith, k))) p)
reads_same count bytes (m ∷ ms) [] rest other_rest e other_e a w c l p b v d k q =
    absurd (goes_on (count + 0) other_rest (flat_map message_bytes ms ++ rest) m other_e (All-head IsWhole m ms w)
    (sym b ∙ a ∙ append_assoc (message_bytes m) (flat_map message_bytes ms) rest)
    (not_last_of (count + 0) m (All-head (λ x. closes x.head ≡ false) m ms c) (omega (arith, l))) q)
reads_same count bytes (m ∷ ms) (n ∷ ns) rest other_rest e other_e a w c l p b v d k q =
    let mine : bytes ≡ message_bytes m ++ (flat_map message_bytes ms ++ rest) = a ∙ append_assoc (message_bytes m) (flat_map message_bytes ms) rest in
    let theirs : bytes ≡ message_bytes n ++ (flat_map message_bytes ns ++ other_rest) = b ∙ append_assoc (message_bytes n) (flat_map message_bytes ns) other_rest in
    let one = one_message bytes (flat_map message_bytes ms ++ rest) (flat_map message_bytes ns ++ other_rest) m n (All-head IsWhole m ms w) (All-head IsWhole n ns v) mine theirs in
    let P : ℕ → Type 0 = λ i. EndsSo i rest e in
    let Q : ℕ → Type 0 = λ i. EndsSo i other_rest other_e in
    let i : count + length (m ∷ ms) ≡ (count + 1) + length ms = omega arith in
    let j : count + length (n ∷ ns) ≡ (count + 1) + length ns = omega arith in
    let more = reads_same (count + 1) (flat_map message_bytes ms ++ rest) ms ns rest other_rest e other_e
    refl (All-tail IsWhole m ms w) (All-tail (λ x. closes x.head ≡ false) m ms c) (omega (arith, l)) (subst P i p)
    one.1 (All-tail IsWhole n ns v) (All-tail (λ x. closes x.head ≡ false) n ns d) (omega (arith, k)) (subst Q j q) in
    (ap (λ x. x ∷ ms) one.0 ∙ ap (λ xs. n ∷ xs) more.0, more.1)

-- a stream has one reading
pub readings_agree : (bytes : List ℕ) (before other : List Message) (rest other_rest : List ℕ) (ending other_ending : Ending)
    → Messages bytes before rest ending → Messages bytes other other_rest other_ending
    → (before ≡ other) × ((rest ≡ other_rest) × (ending ≡ other_ending))
readings_agree bytes before other rest other_rest ending other_ending a b =
    let zero_plus : (n : ℕ) → n ≡ 0 + n = λ n. omega arith in
    let P : ℕ → Type 0 = λ i. EndsSo i rest ending in
    let Q : ℕ → Type 0 = λ i. EndsSo i other_rest other_ending in
    reads_same 0 bytes before other rest other_rest ending other_ending
    a.whole a.each a.on (omega (arith, a.few)) (subst P (zero_plus (length before)) a.ends)
    b.whole b.each b.on (omega (arith, b.few)) (subst Q (zero_plus (length other)) b.ends)

-- messages at the front, after which others may follow, are the first of any reading
front_same : (count : ℕ) (bytes : List ℕ) (front before : List Message) (rest left : List ℕ) (e : Ending)
    → bytes ≡ flat_map message_bytes front ++ rest → All IsWhole front → All (λ m. closes m.head ≡ false) front → count + length front < most_messages
    → bytes ≡ flat_map message_bytes before ++ left → All IsWhole before → count + length before < most_messages → EndsSo (count + length before) left e
    → (others : List Message) × (before ≡ front ++ others)
front_same count bytes [] before rest left e a w c l b v k q = (before, refl)
front_same count bytes (m ∷ ms) [] rest left e a w c l b v k q =
    absurd (goes_on (count + 0) left (flat_map message_bytes ms ++ rest) m e (All-head IsWhole m ms w)
    (sym b ∙ a ∙ append_assoc (message_bytes m) (flat_map message_bytes ms) rest)
    (not_last_of (count + 0) m (All-head (λ x. closes x.head ≡ false) m ms c) (omega (arith, l))) q)
front_same count bytes (m ∷ ms) (n ∷ ns) rest left e a w c l b v k q =
    let mine : bytes ≡ message_bytes m ++ (flat_map message_bytes ms ++ rest) = a ∙ append_assoc (message_bytes m) (flat_map message_bytes ms) rest in
    let theirs : bytes ≡ message_bytes n ++ (flat_map message_bytes ns ++ left) = b ∙ append_assoc (message_bytes n) (flat_map message_bytes ns) left in
    let one = one_message bytes (flat_map message_bytes ms ++ rest) (flat_map message_bytes ns ++ left) m n (All-head IsWhole m ms w) (All-head IsWhole n ns v) mine theirs in
    let Q : ℕ → Type 0 = λ i. EndsSo i left e in
    let j : count + length (n ∷ ns) ≡ (count + 1) + length ns = omega arith in
    let more = front_same (count + 1) (flat_map message_bytes ms ++ rest) ms ns rest left e
    refl (All-tail IsWhole m ms w) (All-tail (λ x. closes x.head ≡ false) m ms c) (omega (arith, l))
    one.1 (All-tail IsWhole n ns v) (omega (arith, k)) (subst Q j q) in
    (more.0, ap (λ xs. n ∷ xs) more.1 ∙ ap (λ x. x ∷ (ms ++ more.0)) (sym one.0))

pub front_of_reading : (bytes : List ℕ) (front : List Message) (rest : List ℕ) (before : List Message) (left : List ℕ) (ending : Ending)
    → bytes ≡ flat_map message_bytes front ++ rest → All IsWhole front → All (λ m. closes m.head ≡ false) front → length front < most_messages
    → Messages bytes before left ending → (others : List Message) × (before ≡ front ++ others)
front_of_reading bytes front rest before left ending whole each on few reading =
    let zero_plus : (n : ℕ) → n ≡ 0 + n = λ n. omega arith in
    let Q : ℕ → Type 0 = λ i. EndsSo i left ending in
    front_same 0 bytes front before rest left ending whole each on (omega (arith, few)) reading.whole reading.each (omega (arith, reading.few)) (subst Q (zero_plus (length before)) reading.ends)
