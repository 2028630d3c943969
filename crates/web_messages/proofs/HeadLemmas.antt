-- What the parser's answers say of the front of a stream.
use Rattle.std.proofs.Common.{◌≡◌, ℕ, ◌<◌, ◌≤◌, List, [], ◌∷◌, ◌++◌, length, take, drop, ap, ◌∙◌, inl, inr, arith, length-append, length-take, append-nil}
use Rattle.std.proofs.lemmas.List.{length-map}
use Rattle.std.specs.List.{flat_map}
use Rattle.httparse.specs.declared.spans.HeaderSpan.{HeaderSpan}
use Rattle.httparse.specs.declared.spans.RequestSpans.{RequestSpans}
use Rattle.httparse.specs.Grammar.{Field, print_field, print_end, lf, RequestHead, print_request, HasNoRequest, NeverHasRequest, MayBecomeRequest}
use Rattle.httparse.specs.Spans.{header_bytes, name_and_value, IsRequestAt, IsRequestOf, RequestOverflows, RequestExceeds}
use Rattle.web_messages.specs.declared.head.Head.{Head}
use Rattle.web_messages.specs.declared.head.Judged.TheVariants.{Whole, Long, Bad, Open}
use Rattle.web_messages.specs.Heads.{facts_of, JudgedSo}
use Rattle.web_messages.specs.Streams.{most_fields}
use Rattle.web_messages.specs.Targets.{IsInTarget}

-- each field has a byte at least
pub fields_fit : (fields : List Field) → length fields ≤ length (flat_map print_field fields)
fields_fit [] = omega arith
fields_fit (f ∷ fs) =
    omega (arith, fields_fit fs, length-append (print_field f) (flat_map print_field fs), length-append (f.name ++ 58 ∷ f.raw) (print_end f.end), length-append f.name (58 ∷ f.raw))

-- a head has more bytes than fields
pub head_fits : (h : RequestHead) → length h.fields ≤ length (print_request h)
unfolding print_request
head_fits h = simp length-append (omega (arith, fields_fit h.fields))

-- as many spans as the fields
pub spans_of_fields : (bytes : List ℕ) (headers : List HeaderSpan) (r : RequestSpans) (h : RequestHead)
    → IsRequestAt bytes headers r h → length h.fields ≤ length headers
spans_of_fields bytes headers r h at =
    let e = ap length at.fields in
    omega (arith, e, length-map (take r.headers headers) (header_bytes bytes), length-map h.fields name_and_value, length-take r.headers headers)

pub whole_judged : (bytes : List ℕ) (headers : List HeaderSpan) (r : RequestSpans) (head : Head)
    → length headers ≤ most_fields → IsRequestOf bytes headers r
    → ((h : RequestHead) → IsRequestAt bytes headers r h → head ≡ facts_of h) → JudgedSo bytes (Whole head)
whole_judged bytes headers r head few p f =
    (p.0, drop r.len bytes, p.1.reads, omega (arith, spans_of_fields bytes headers r p.0 p.1), f p.0 p.1)

-- a head in bytes in which each has too many fields
pub long_judged : (bytes : List ℕ) (headers : List HeaderSpan) (r : RequestSpans)
    → RequestOverflows most_fields bytes → IsRequestOf bytes headers r → JudgedSo bytes Long
long_judged bytes headers r over p =
    (p.0, drop r.len bytes, p.1.reads, over [] p.0 (drop r.len bytes) (p.1.reads.0, append-nil bytes ∙ p.1.reads.1))

pub open_judged : (bytes : List ℕ) → HasNoRequest bytes → MayBecomeRequest bytes → JudgedSo bytes Open
open_judged bytes none may = record { none = none; open_still = inl may }

-- more fields than bytes can't be
pub never_exceeds : (bytes : List ℕ) (room : ℕ) → length bytes < room → RequestExceeds room bytes → ⊥
never_exceeds bytes room l p =
    let front = p.0 in
    let h = p.3 in
    let e = ap length p.4.1 in
    absurd (omega (arith, head_fits h, e, ap length p.2, p.5, length-append front p.1, length-append front (print_end lf), length-append (print_request h) []))

-- what never has a head has none
pub never_has : (bytes : List ℕ) → NeverHasRequest bytes → HasNoRequest bytes
never_has bytes never h rest reads = never [] h rest (reads.0, append-nil bytes ∙ reads.1)

pub in_target : (bytes : List ℕ) → NeverHasRequest bytes → IsInTarget bytes → JudgedSo bytes Open
in_target bytes never inside = record { none = never_has bytes never; open_still = inr inside }

pub bad_judged : (bytes : List ℕ) → NeverHasRequest bytes → (IsInTarget bytes → ⊥) → JudgedSo bytes Bad
bad_judged bytes never outside = record { never = never; outside = outside }
