use Rattle.std.proofs.Common.{subst}
use Rattle.web_messages.specs.declared.head.Judged.{Judged}
use Rattle.web_messages.specs.Receipt.{is_settled, SettledSo}
use Rattle.web_messages.specs.Streams.{front}
use Rattle.web_messages.proofs.ReceiptLemmas.{starts_front, long_stays, bad_stays}
use Rattle.web_messages.proofs.receive.next_message.Goals as goal

pub next_body-requires : goal.next_body-requires
next_body-requires g c =
    let u = c.read_head.new.incoming in
    let P : Judged → Type 0 = λ j. SettledSo (is_settled u) (front u.bytes) j in
    starts_front (is_settled u) u.bytes c.in-Whole.head (subst P c.in-Whole.is c.in_ok-head.ensures.judged)

pub returns-in-Long-clause-next : goal.returns-in-Long-clause-next
returns-in-Long-clause-next g c =
    let u = c.read_head.new.incoming in
    let P : Judged → Type 0 = λ j. SettledSo (is_settled u) (front u.bytes) j in
    long_stays (is_settled u) u.ended u.bytes (subst P c.in-Long.is c.in_ok-head.ensures.judged)

pub returns-in-Bad-clause-next : goal.returns-in-Bad-clause-next
returns-in-Bad-clause-next g c =
    let u = c.read_head.new.incoming in
    let P : Judged → Type 0 = λ j. SettledSo (is_settled u) (front u.bytes) j in
    bad_stays u.ended u.bytes (subst P c.in-Bad.is c.in_ok-head.ensures.judged)
