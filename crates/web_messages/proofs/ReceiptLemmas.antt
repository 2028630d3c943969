-- What is settled of the front of a stream stays so whatever follows.
use Rattle.std.proofs.Common.{◌≡◌, ℕ, ◌+◌, ◌-◌, ◌<◌, ◌≤◌, Bool, true, false, List, [], ◌∷◌, ◌++◌, length, take, drop, Option, Some, None, IfSome, refl, ap, sym, ◌∙◌, subst, inl, inr, arith, append_assoc, length-append, length-take, append-nil, take_all, take-append-drop, min, suc, cond}
use Rattle.std.proofs.lemmas.List.{take-append-le, drop-append-le}
use Rattle.std.proofs.lemmas.Bool.{cases_lt, leb-true, leb-false}
use Rattle.std.specs.Prelude.{nat_le, ◌||◌}
use Rattle.std.proofs.lemmas.List.Sums.{fold-append}
use Rattle.std.proofs.Math.Seq.{take-append-add}
use Rattle.httparse.specs.Grammar.{RequestHead, print_request, ReadsRequest, NeverHasRequest}
use Rattle.web_messages.specs.declared.head.Head.{Head}
use Rattle.web_messages.specs.declared.head.Judged.{Judged}
use Rattle.web_messages.specs.declared.head.Judged.TheVariants as judged
use Rattle.web_messages.specs.declared.receive.Stop.TheVariants as stop
use Rattle.web_messages.specs.declared.receive.Next.TheVariants as next
use Rattle.web_messages.specs.declared.target.Place.TheVariants.{Start, Past}
use Rattle.web_messages.specs.Receipt.{IsStream, GoesOn, Whatever, SettledSo, NextSo, StartsWith, ending_of}
use Rattle.web_messages.specs.Streams.{IsBad, IsOpen, EndsSo, BeginsWith, most_head, most_body, front}
use Rattle.web_messages.specs.Unread.{Unread}
use Rattle.web_messages.specs.Targets.{next_place, place_from}
use Rattle.web_messages.proofs.InTargets.{inside_is}

-- bytes that never have a head never have one with more after them
pub never_more : (bytes more : List ℕ) → NeverHasRequest bytes → NeverHasRequest (bytes ++ more)
never_more bytes more never after h rest reads = never (more ++ after) h rest (reads.0, sym (append_assoc bytes more after) ∙ reads.1)

-- nothing leads back from past the target
pub past_stays : (bytes : List ℕ) → place_from Past bytes ≡ Past
past_stays [] = refl
past_stays (b ∷ bytes) = past_stays bytes

pub bad_more : (bytes more : List ℕ) → NeverHasRequest bytes → place_from Start bytes ≡ Past → IsBad (bytes ++ more)
bad_more bytes more never past =
    let e : place_from Start (bytes ++ more) ≡ Past =
    fold-append next_place Start bytes more ∙ ap (λ p. place_from p more) past ∙ past_stays more in
    record { never = never_more bytes more never; outside = λ inside. absurd (cc (sym e ∙ inside_is (bytes ++ more) inside)) }

-- the front of bytes that are as many as a head may have
pub front_full : (bytes more : List ℕ) → most_head ≤ length bytes → front (bytes ++ more) ≡ front bytes
front_full bytes more l = take-append-le most_head bytes more l

-- the front of fewer bytes is all of them
pub front_all : (bytes : List ℕ) → length bytes ≤ most_head → front bytes ≡ bytes
front_all bytes l = take_all most_head bytes l

-- the front of more bytes goes on from the front of these
pub front_on : (bytes more : List ℕ) → (x : List ℕ) × (front (bytes ++ more) ≡ front bytes ++ x)
front_on bytes more =
    elim (cases_lt (length bytes) most_head) [
      | inl few ↦ (
        take (most_head - length bytes) more,
        ap (λ n. take n (bytes ++ more)) (let e : most_head ≡ length bytes + (most_head - length bytes) = omega arith in e)
            ∙ take-append-add bytes more (most_head - length bytes)
            ∙ ap (λ b. b ++ take (most_head - length bytes) more) (sym (front_all bytes (omega arith))),
      )
      | inr many ↦ ([], front_full bytes more (omega arith) ∙ sym (append-nil (front bytes)))
    ]

-- a head at the front of some bytes is at the front of more
pub reads_more : (bytes more rest : List ℕ) (h : RequestHead) → ReadsRequest bytes h rest → ReadsRequest (bytes ++ more) h (rest ++ more)
reads_more bytes more rest h reads = (reads.0, ap (λ b. b ++ more) reads.1 ∙ append_assoc (print_request h) rest more)

-- a head in the front of some bytes is at the front of all of them, and is no longer than the front
pub reads_front : (bytes rest : List ℕ) (h : RequestHead) → ReadsRequest (front bytes) h rest
    → ReadsRequest bytes h (rest ++ drop most_head bytes)
reads_front bytes rest h reads =
    (reads.0, sym (take-append-drop most_head bytes) ∙ (reads_more (front bytes) (drop most_head bytes) rest h reads).1)

pub short_front : (bytes rest : List ℕ) (h : RequestHead) → ReadsRequest (front bytes) h rest → length (print_request h) ≤ most_head
short_front bytes rest h reads =
    omega (arith, ap length reads.1, length-take most_head bytes, length-append (print_request h) rest)

pub starts_front : (settled : Bool) (bytes : List ℕ) (head : Head) → SettledSo settled (front bytes) (judged.Whole head) → StartsWith bytes head
starts_front settled bytes head p =
    (p.0, p.1 ++ drop most_head bytes, (reads_front bytes p.1 p.0 p.2, record { bytes = short_front bytes p.1 p.0 p.2; fields = p.3 }), p.4)

-- a long head stays one
pub long_stays : (settled ended : Bool) (bytes : List ℕ) → SettledSo settled (front bytes) judged.Long
    → Whatever ended bytes (λ rest. EndsSo 0 rest (ending_of stop.LongHead))
long_stays settled ended bytes p more none =
    inr (p.0, (p.1 ++ drop most_head bytes) ++ more, reads_more bytes more (p.1 ++ drop most_head bytes) p.0 (reads_front bytes p.1 p.0 p.2), short_front bytes p.1 p.0 p.2, p.3)

-- no more bytes come, or none that count
pub settled_front : (ended : Bool) (bytes more : List ℕ) → (ended || nat_le most_head (length bytes)) ≡ true → (ended ≡ true → more ≡ [])
    → front (bytes ++ more) ≡ front bytes
settled_front true bytes more s none = ap front (ap (λ m. bytes ++ m) (none refl) ∙ append-nil bytes)
settled_front false bytes more s none = front_full bytes more (leb-true most_head (length bytes) s)

-- bad bytes stay bad
pub bad_stays : (ended : Bool) (bytes : List ℕ) → SettledSo (ended || nat_le most_head (length bytes)) (front bytes) judged.Bad
    → Whatever ended bytes (λ rest. EndsSo 0 rest (ending_of stop.BadHead))
bad_stays ended bytes p more none =
    elim p.1 [
      | inl settled ↦ subst IsBad (sym (settled_front ended bytes more settled none)) p.0
      | inr past ↦ (let x = front_on bytes more in subst IsBad (sym x.1) (bad_more (front bytes) x.0 p.0.never past))
    ]

-- Where the reading stopped without a head.

pub over_stays : (ended : Bool) (bytes : List ℕ) → length bytes ≡ 0 → (ended || nat_le most_head (length bytes)) ≡ true
    → Whatever ended bytes (λ rest. EndsSo 0 rest (ending_of stop.Over))
over_stays ended [] l s more none = none (elim ended as (λ e. (e || nat_le most_head 0) ≡ true → e ≡ true) [ true ↦ λ _. refl | false ↦ λ h. h ] s)
over_stays ended (b ∷ bytes) l s more none = absurd (omega (arith, l))

pub too_long_stays : (ended : Bool) (bytes : List ℕ) → IsOpen (front bytes) → most_head ≤ length bytes
    → Whatever ended bytes (λ rest. EndsSo 0 rest (ending_of stop.LongHead))
too_long_stays ended bytes open_front l more none =
    inl (subst IsOpen (sym (front_full bytes more l)) open_front, omega (arith, length-append bytes more))

-- what is settled and short has ended
pub ended_of : (ended : Bool) (n : ℕ) → (ended || nat_le most_head n) ≡ true → n < most_head → ended ≡ true
ended_of true n s l = refl
ended_of false n s l = absurd (omega (arith, leb-true most_head n s))

pub cut_stays : (ended : Bool) (bytes : List ℕ) (had : ℕ) → IsOpen (front bytes) → (ended || nat_le most_head (length bytes)) ≡ true
    → length bytes < most_head → 0 < length bytes → had ≡ length bytes
    → Whatever ended bytes (λ rest. EndsSo 0 rest (ending_of (stop.CutHead had)))
cut_stays ended bytes had open_front s l some is more none =
    let e : bytes ++ more ≡ bytes = ap (λ m. bytes ++ m) (none (ended_of ended (length bytes) s l)) ∙ append-nil bytes in
    let P : List ℕ → Type 0 = λ rest. EndsSo 0 rest (ending_of (stop.CutHead had)) in
    subst P (sym e) (subst IsOpen (front_all bytes (omega arith)) open_front, some, l, is)

-- Where it stopped after a head.

pub begins_more : (bytes more rest : List ℕ) (h : RequestHead) → BeginsWith bytes h rest → BeginsWith (bytes ++ more) h (rest ++ more)
begins_more bytes more rest h p = (reads_more bytes more rest h p.0, p.1)

pub unframed_stays : (ended : Bool) (bytes : List ℕ) (head : Head) → StartsWith bytes head → head.said ≡ None
    → Whatever ended bytes (λ rest. EndsSo 0 rest (ending_of stop.Unframed))
unframed_stays ended bytes head p e more none =
    (p.0, p.1 ++ more, begins_more bytes more p.1 p.0 p.2, sym (ap (λ f. f.said) p.3) ∙ e)

pub long_body_stays : (ended : Bool) (bytes : List ℕ) (head : Head) (said : ℕ) → StartsWith bytes head → head.said ≡ Some said → most_body < said
    → Whatever ended bytes (λ rest. EndsSo 0 rest (ending_of (stop.LongBody said)))
long_body_stays ended bytes head said p e l more none =
    (p.0, p.1 ++ more, begins_more bytes more p.1 p.0 p.2, sym (ap (λ f. f.said) p.3) ∙ e, l)

-- how many bytes come after the head
pub after_head : (bytes : List ℕ) (head : Head) (p : StartsWith bytes head) → head.length + length p.1 ≡ length bytes
after_head bytes head p =
    let e : head.length ≡ length (print_request p.0) = ap (λ f. f.length) p.3 in
    omega (arith, e, ap length p.2.0.1, length-append (print_request p.0) p.1)

pub starts_more : (bytes bytes_now : List ℕ) (head : Head) → GoesOn bytes bytes_now → StartsWith bytes head → StartsWith bytes_now head
starts_more bytes bytes_now head on p =
    let P : List ℕ → Type 0 = λ b. StartsWith b head in
    subst P (sym on.1) (p.0, p.1 ++ on.0, begins_more bytes on.0 p.1 p.0 p.2, p.3)

pub cut_body_stays : (ended : Bool) (bytes : List ℕ) (head : Head) (said had : ℕ) → StartsWith bytes head → head.said ≡ Some said
    → said ≤ most_body → ended ≡ true → length bytes < head.length + said → had ≡ length bytes - head.length
    → Whatever ended bytes (λ rest. EndsSo 0 rest (ending_of (stop.CutBody had said)))
cut_body_stays ended bytes head said had p e l last less is more none =
    let same : bytes ++ more ≡ bytes = ap (λ m. bytes ++ m) (none last) ∙ append-nil bytes in
    let P : List ℕ → Type 0 = λ rest. EndsSo 0 rest (ending_of (stop.CutBody had said)) in
    let all = after_head bytes head p in
    subst P (sym same) (p.0, p.1, p.2, sym (ap (λ f. f.said) p.3) ∙ e, l, omega (arith, all), omega (arith, all, is))

-- a whole message is there
pub message_there : (ended : Bool) (bytes : List ℕ) (head : Head) (said : ℕ) → StartsWith bytes head → head.said ≡ Some said
    → said ≤ most_body → head.length + said ≤ length bytes → NextSo ended bytes (next.Message head (head.length + said))
message_there ended bytes head said p e l enough =
    let all = after_head bytes head p in
    let size : length (take said p.1) ≡ said = length-take said p.1 ∙ (let k : min said (length p.1) ≡ said = omega (arith, all) in k) in
    let h : head.length ≡ length (print_request p.0) = ap (λ f. f.length) p.3 in (
      record { head = p.0; body = take said p.1 },
      drop said p.1,
      record {
        head = p.2.0.0;
        short = p.2.1;
        said = sym (ap (λ f. f.said) p.3) ∙ e ∙ ap Some (sym size);
        bounded = omega (arith, size);
      },
      p.2.0.1 ∙ ap (λ b. print_request p.0 ++ b) (sym (take-append-drop said p.1)) ∙ sym (append_assoc (print_request p.0) (take said p.1) (drop said p.1)),
      p.3,
      omega (arith, size, h, length-append (print_request p.0) (take said p.1)),
    )

-- One read.

-- some bytes were read
pub more_read : (coming coming_now : Option (List ℕ)) (u : Unread) (held held_now room piece rest : List ℕ) (start count : ℕ) (ended : Bool)
    → start ≤ length held → u.bytes ≡ drop start held → ended ≡ false → held_now ≡ held ++ piece → piece ≡ take count room
    → IfSome coming (λ bytes. (count ≤ length bytes) × (take count room ≡ take count bytes) × (coming_now ≡ Some (drop count bytes)))
    → IsStream coming u rest
    → IsStream coming_now (record { bytes = drop start held_now; ended = ended }) rest
more_read None coming_now u held held_now room piece rest start count ended l v f h p told s = absurd (let e = s.1 in cc)
more_read (Some left) coming_now u held held_now room piece rest start count ended l v f h p told s =
    let e : s.0 ≡ left = (let q = s.1 in cc) in
    let read : piece ≡ take count left = p ∙ told.1 in
    let now : drop start held_now ≡ drop start held ++ piece = ap (λ t. drop start t) h ∙ drop-append-le start held piece l in (
      drop count left,
      told.2,
      s.2 ∙ ap (λ t. t ++ s.0) v ∙ ap (λ t. drop start held ++ t) (e ∙ sym (take-append-drop count left) ∙ ap (λ t. t ++ drop count left) (sym read))
          ∙ sym (append_assoc (drop start held) piece (drop count left)) ∙ ap (λ t. t ++ drop count left) (sym now),
      λ t. absurd (let q = sym f ∙ t in cc),
    )

-- the bytes go on
pub goes_on : (u : Unread) (held held_now piece : List ℕ) (start : ℕ) → start ≤ length held → u.bytes ≡ drop start held → held_now ≡ held ++ piece
    → GoesOn u.bytes (drop start held_now)
goes_on u held held_now piece start l v h =
    (piece, ap (λ t. drop start t) h ∙ drop-append-le start held piece l ∙ ap (λ t. t ++ piece) (sym v))

-- no bytes were read, so this is the end
pub end_read : (coming coming_now : Option (List ℕ)) (u : Unread) (held room rest : List ℕ) (start count size : ℕ)
    → u.bytes ≡ drop start held → count ≡ 0 → 0 < size
    → IfSome coming (λ left. (count ≤ length left) × (take count room ≡ take count left) × (coming_now ≡ Some (drop count left)))
    → IfSome coming (λ left. count ≡ 0 → 0 < size → left ≡ [])
    → IsStream coming u rest
    → IsStream coming_now (record { bytes = drop start held; ended = true }) rest
end_read None coming_now u held room rest start count size v z l told end s = absurd (let e = s.1 in cc)
end_read (Some left) coming_now u held room rest start count size v z l told end s =
    let nothing : left ≡ [] = end z l in
    let e : s.0 ≡ left = (let q = s.1 in cc) in
    let after : drop count left ≡ [] = ap (λ n. drop n left) z ∙ nothing in
    ([], told.2 ∙ ap Some after, s.2 ∙ ap (λ t. t ++ s.0) v ∙ ap (λ t. drop start held ++ t) (e ∙ nothing), λ _. refl)

-- what was settled of the front, where it was found so
pub settled_at : (found : Option Judged) (j : Judged) (settled settled_now : Bool) (bytes bytes_now : List ℕ)
    → found ≡ Some j → settled ≡ settled_now → bytes ≡ bytes_now
    → IfSome found (λ judged. SettledSo settled bytes judged) → SettledSo settled_now bytes_now j
settled_at found j settled settled_now bytes bytes_now e f h p =
    let F : Option Judged → Type 0 = λ o. IfSome o (λ judged. SettledSo settled bytes judged) in
    let G : Bool → Type 0 = λ s. SettledSo s bytes j in
    let H : List ℕ → Type 0 = λ b. SettledSo settled_now b j in
    subst H h (subst G f (subst F e p))

-- while nothing is settled fewer bytes may still come, or the end was seen
pub shrinks : (ended ended_now : Bool) (size size_now : ℕ) → (ended || nat_le most_head size) ≡ false → (ended_now ≡ false → size < size_now)
    → suc (cond ended_now 0 (1 + (most_head - size_now))) ≤ cond ended 0 (1 + (most_head - size))
shrinks true ended_now size size_now s l = absurd (cc (s))
shrinks false true size size_now s l = omega arith
shrinks false false size size_now s l = omega (arith, l refl, leb-false most_head size s)
