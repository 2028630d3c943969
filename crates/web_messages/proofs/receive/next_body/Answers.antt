use Rattle.std.proofs.Common.{◌≡◌, length, ◌-◌, true, inl, inr, arith, rules, ap}
use Rattle.web_messages.proofs.ReceiptLemmas.{unframed_stays, long_body_stays, cut_body_stays, message_there, starts_more}
use Rattle.web_messages.proofs.receive.next_body.Goals as goal

pub returns-in_default-clause-next : goal.returns-in_default-clause-next
returns-in_default-clause-next g c =
    unframed_stays _ _ c.args.head c.requires (search rules)

pub returns-then-said-gt-MOST_BODY-clause-next : goal.returns-then-said-gt-MOST_BODY-clause-next
returns-then-said-gt-MOST_BODY-clause-next g c =
    long_body_stays _ _ c.args.head _ c.requires (search rules) (search rules)

pub returns-then-come-total-clause-next : goal.returns-then-come-total-clause-next
returns-then-come-total-clause-next g c =
    let u = c.read_body.new.incoming in
    let size = ap length c.as_slice-come.ensures in
    let last : u.ended ≡ true = elim c.in_ok-read_body.ensures.all [ inl enough ↦ absurd (omega (arith, size, enough)) | inr ended ↦ ended ] in
    cut_body_stays u.ended u.bytes c.args.head c.in-Some.said (length c.as_slice-come.result.now - c.args.head.length)
    (starts_more c.args.incoming.now.bytes u.bytes c.args.head c.in_ok-read_body.ensures.on c.requires)
    (search rules) (search rules) last (omega (arith, size)) (omega (arith, size))

pub returns-clause-next : goal.returns-clause-next
returns-clause-next g c =
    let u = c.read_body.new.incoming in
    let size = ap length c.as_slice-come.ensures in
    message_there u.ended u.bytes c.args.head c.in-Some.said
    (starts_more c.args.incoming.now.bytes u.bytes c.args.head c.in_ok-read_body.ensures.on c.requires)
    (search rules) (search rules) (omega (arith, size))
