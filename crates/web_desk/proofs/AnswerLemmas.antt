-- What was sent of a reply answers its message.
use Rattle.std.proofs.Common.{◌≡◌, ℕ, ◌≤◌, Bool, List, [], ◌∷◌, ◌++◌, length, take, drop, Option, Some, None, IfSome, Result, Ok, Err, IfErr, refl, ap, sym, ◌∙◌, subst, inr, append-nil, take-append-drop}
use Rattle.web_desk.specs.declared.conn_end.ConnEnd.{ConnEnd}
use Rattle.web_desk.specs.declared.conn_end.ConnEnd.TheVariants as conn
use Rattle.web_desk.specs.declared.own_reply.OwnReply.{OwnReply}
use Rattle.web_desk.specs.Answers.{entry_message, own_message}
use Rattle.desk.specs.Entries.{Entry}
use Rattle.web_messages.specs.declared.broken.Broken.{Broken}
use Rattle.web_messages.specs.declared.broken.Broken.TheVariants as broken
use Rattle.web_messages.specs.ReadCounts.{ReadsCounted}
use Rattle.web_desk.specs.Counts.{Counted}
use Rattle.web_desk.specs.Ends.{IsBroken, end_of_broken}
use Rattle.web_desk.specs.Sent.{Sends}
use Rattle.web_desk.specs.Served.{IsFrontOf, AreOf}
use Rattle.hl_time.specs.declared.day.Day.{Day}
use Rattle.std.proofs.lemmas.List.Elements.{All-nil, All-cons}
use Rattle.web_desk.specs.Turns.{SentSo, FailsSo, AnswersSo}

-- what follows from what was sent
pub sends_more : (sent sent_now : Option (List ℕ)) (P Q : List ℕ → Type 0) → ((text : List ℕ) → P text → Q text)
    → Sends sent sent_now P → Sends sent sent_now Q
sends_more sent sent_now P Q f p = (p.0, p.1, f p.0 p.2)

-- nothing was sent
pub sends_nothing : (sent sent_now : Option (List ℕ)) (Q : List ℕ → Type 0) → sent_now ≡ sent → Q [] → Sends sent sent_now Q
sends_nothing None sent_now Q e q = ([], tt, q)
sends_nothing (Some before) sent_now Q e q = ([], e ∙ ap Some (sym (append-nil before)), q)

-- nothing was sent of a reply, for a fault before it was made
pub unsent : (sent : Option (List ℕ)) (result : Result (Unit {0}) ConnEnd) (end : ConnEnd) (whole : List ℕ) → result ≡ Err end
    → Sends sent sent (λ text. SentSo result whole text)
unsent sent result end whole is =
    let R : Result (Unit {0}) ConnEnd → Type 0 = λ r. SentSo r whole [] in
    sends_nothing sent sent (λ text. SentSo result whole text) refl (subst R (sym is) (whole, refl))

-- a front by a number of bytes
pub front_by : (n : ℕ) (whole : List ℕ) → IsFrontOf (take n whole) whole
front_by n whole = (drop n whole, sym (take-append-drop n whole))

pub own_answers : (result : Result (Unit {0}) ConnEnd) (closing : Bool) (own_reply : OwnReply) (text : List ℕ) → IfErr result IsBroken
    → SentSo result (own_message closing own_reply) text → AnswersSo closing (Err own_reply) result [] text
own_answers (Ok done) closing own_reply text b s = (None, tt, refl, s)
own_answers (Err (conn.LinkFault way)) closing own_reply text b s = inr (None, tt, refl, s)
own_answers (Err conn.Memory) closing own_reply text b s = inr (None, tt, refl, s)
own_answers (Err conn.Closed) closing own_reply text b s = absurd b
own_answers (Err (conn.BadHead at)) closing own_reply text b s = absurd b
own_answers (Err conn.HeadTooLong) closing own_reply text b s = absurd b
own_answers (Err (conn.BodyTooLong said)) closing own_reply text b s = absurd b
own_answers (Err (conn.CutOff had said)) closing own_reply text b s = absurd b
own_answers (Err conn.Spent) closing own_reply text b s = absurd b
own_answers (Err (conn.HeadCut had)) closing own_reply text b s = absurd b

pub entry_answers : (result : Result (Unit {0}) ConnEnd) (closing : Bool) (entry : Entry) (text : List ℕ) → IfErr result IsBroken
    → SentSo result (entry_message closing entry) text → AnswersSo closing (Ok entry.request) result (entry ∷ []) text
entry_answers (Ok done) closing entry text b s = (Some entry, refl, refl, s)
entry_answers (Err (conn.LinkFault way)) closing entry text b s = inr (Some entry, refl, refl, s)
entry_answers (Err conn.Memory) closing entry text b s = inr (Some entry, refl, refl, s)
entry_answers (Err conn.Closed) closing entry text b s = absurd b
entry_answers (Err (conn.BadHead at)) closing entry text b s = absurd b
entry_answers (Err conn.HeadTooLong) closing entry text b s = absurd b
entry_answers (Err (conn.BodyTooLong said)) closing entry text b s = absurd b
entry_answers (Err (conn.CutOff had said)) closing entry text b s = absurd b
entry_answers (Err conn.Spent) closing entry text b s = absurd b
entry_answers (Err (conn.HeadCut had)) closing entry text b s = absurd b

-- memory ran out before the reply to an entry was made
pub entry_unanswered : (closing : Bool) (entry : Entry) → FailsSo closing (Ok entry.request) conn.Memory (entry ∷ []) []
entry_unanswered closing entry = inr (Some entry, refl, refl, (entry_message closing entry, refl))

-- a front was sent, where a write failed
pub front_sent : (sent sent_now : Option (List ℕ)) (piece whole : List ℕ) → piece ≡ whole
    → IfSome sent (λ before. (n : ℕ) × (n ≤ length piece) × (sent_now ≡ Some (before ++ take n piece)))
    → Sends sent sent_now (λ text. IsFrontOf text whole)
front_sent None sent_now piece whole e p = ([], tt, (whole, refl))
front_sent (Some before) sent_now piece whole e p =
    (take p.0 whole, p.2 ∙ ap (λ t. Some (before ++ take p.0 t)) e, front_by p.0 whole)

-- all of it was sent
pub all_sent : (sent sent_now : Option (List ℕ)) (piece whole : List ℕ) → piece ≡ whole
    → IfSome sent (λ before. sent_now ≡ Some (before ++ piece)) → Sends sent sent_now (λ text. text ≡ whole)
all_sent None sent_now piece whole e p = (whole, tt, refl)
all_sent (Some before) sent_now piece whole e p = (whole, p ∙ ap (λ t. Some (before ++ t)) e, refl)

abbrev pub day_of : ℕ → Day
day_of n = record { 0 = n }

-- each of no entries, and each of one, has a day
pub none_of : (day : Option ℕ) → IfSome day (λ d. AreOf d [])
none_of None = tt
none_of (Some d) = All-nil (λ (x : Entry). x.day ≡ day_of d)

pub one_of : (day : Option ℕ) (entry : Entry) (today : ℕ) → entry.day ≡ day_of today → IfSome day (λ d. today ≡ d) → IfSome day (λ d. AreOf d (entry ∷ []))
one_of None entry today e p = tt
one_of (Some d) entry today e p =
    All-cons (λ (x : Entry). x.day ≡ day_of d) entry [] (e ∙ ap day_of p) (All-nil (λ (x : Entry). x.day ≡ day_of d))

-- no more was read for one of two causes, which the end tells
pub broken_ends : (end : ConnEnd) (cause : Broken) → end ≡ end_of_broken cause → IsBroken end
broken_ends end broken.Link e = subst IsBroken (sym e) tt
broken_ends end broken.Memory e = subst IsBroken (sym e) tt

pub counted_ends : (T : Type 0) (end : ConnEnd) (cause : Broken) (reads reads_now writes writes_now : ℕ) → end ≡ end_of_broken cause
    → ReadsCounted {T = T} (Err cause) reads reads_now writes writes_now → Counted end reads reads_now writes writes_now
counted_ends T end broken.Link reads reads_now writes writes_now e p =
    let P : ConnEnd → Type 0 = λ x. Counted x reads reads_now writes writes_now in
    subst P (sym e) p
counted_ends T end broken.Memory reads reads_now writes writes_now e p =
    let P : ConnEnd → Type 0 = λ x. Counted x reads reads_now writes writes_now in
    subst P (sym e) p
