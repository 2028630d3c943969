-- A message has at most one entry, and a connection at most as many as it may have messages.
use Rattle.std.proofs.Common.{◌≡◌, ℕ, suc, ◌+◌, ◌≤◌, ◌<◌, Bool, List, [], ◌++◌, length, Option, Some, None, Result, Ok, Err, ap, inl, inr, arith, length-append}
use Rattle.std.specs.Prelude.{option_to_list}
use Rattle.desk.specs.declared.request.Request.{Request}
use Rattle.desk.specs.Entries.{Entry}
use Rattle.web_desk.specs.declared.conn_end.ConnEnd.{ConnEnd}
use Rattle.web_desk.specs.declared.conn_end.ConnEnd.TheVariants as conn
use Rattle.web_desk.specs.Sent.{Sends}
use Rattle.web_desk.specs.Turns.{BreaksIn, FailsSo, AnswersSo}
use Rattle.web_desk.specs.declared.own_reply.OwnReply.{OwnReply}
use Rattle.web_messages.specs.Streams.{most_messages}

option_few : (entry : Option Entry) → length (option_to_list entry) ≤ 1
option_few None =
    let here : 0 ≤ 1 = omega arith in
    here
option_few (Some entry) =
    let here : suc 0 ≤ 1 = omega arith in
    here

of_option : (entry : Option Entry) (entries : List Entry) → entries ≡ option_to_list entry → length entries ≤ 1
of_option entry entries is =
    let same : length entries ≡ length (option_to_list entry) = ap (λ (es : List Entry). length es) is in
    let few : length (option_to_list entry) ≤ 1 = option_few entry in
    omega (arith, same, few)

of_none : (entries : List Entry) → entries ≡ [] → length entries ≤ 1
of_none entries is =
    let none : length entries ≡ 0 = ap (λ (es : List Entry). length es) is in
    omega (arith, none)

breaks_few : (closing : Bool) (call : Result Request OwnReply) (entries : List Entry) (text : List ℕ) → BreaksIn closing call entries text
    → length entries ≤ 1
breaks_few closing call entries text (inl p) = of_none entries p.0
breaks_few closing call entries text (inr p) = of_option p.0 entries p.2

fails_few : (closing : Bool) (call : Result Request OwnReply) (end : ConnEnd) (entries : List Entry) (text : List ℕ)
    → FailsSo closing call end entries text → length entries ≤ 1
fails_few closing call (conn.LinkFault way) entries text p = breaks_few closing call entries text p
fails_few closing call conn.Memory entries text p = breaks_few closing call entries text p
fails_few closing call conn.Spent entries text p = of_none entries p.2
fails_few closing call conn.Closed entries text p = absurd p
fails_few closing call (conn.BadHead place) entries text p = absurd p
fails_few closing call conn.HeadTooLong entries text p = absurd p
fails_few closing call (conn.BodyTooLong said) entries text p = absurd p
fails_few closing call (conn.CutOff had said) entries text p = absurd p
fails_few closing call (conn.HeadCut had) entries text p = absurd p

answers_few : (closing : Bool) (call : Result Request OwnReply) (result : Result (Unit {0}) ConnEnd) (entries : List Entry) (text : List ℕ)
    → AnswersSo closing call result entries text → length entries ≤ 1
answers_few closing call (Ok done) entries text p = of_option p.0 entries p.2
answers_few closing call (Err end) entries text p = fails_few closing call end entries text p

-- a message has at most one entry, whatever the link tells
pub one_at_most : (sent sent_now : Option (List ℕ)) (closing : Bool) (call : Result Request OwnReply) (result : Result (Unit {0}) ConnEnd)
    (entries : List Entry) → Sends sent sent_now (λ text. AnswersSo closing call result entries text) → length entries ≤ 1
one_at_most sent sent_now closing call result entries told = answers_few closing call result entries told.0 told.2

-- one more message
pub few_more : (entries later : List Entry) (count : ℕ) → length entries ≤ count → length later ≤ 1 → length (entries ++ later) ≤ count + 1
few_more entries later count few one =
    let long : length (entries ++ later) ≡ length entries + length later = length-append entries later in
    omega (arith, long, few, one)

-- and the last one
pub few_in_all : (entries later : List Entry) (count : ℕ) → count < most_messages → length entries ≤ count → length later ≤ 1
    → length (entries ++ later) ≤ most_messages
few_in_all entries later count below few one =
    let long : length (entries ++ later) ≡ length entries + length later = length-append entries later in
    omega (arith, long, below, few, one)
