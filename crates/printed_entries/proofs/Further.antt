-- What follows an amount in a posting's line: its cost, its assertion, and the comment on the line.
use Rattle.std.proofs.Common.{ℕ, ◌≡◌, Bool, true, false, cond, ◌&&◌, ◌||◌, codes, List, [], ◌∷◌, ◌++◌, Option, Some, None, Result, Ok, refl, sym, ap, ◌∙◌, arith}
use Rattle.std.specs.Prelude.{is_some}
use Rattle.std.specs.Option.{option_map}
use Rattle.std.proofs.lemmas.Bool.{false≢true}
use Rattle.hl_base.specs.Items.{is_white}
use Rattle.book.specs.declared.amount.Amount.{Amount}
use Rattle.book.specs.declared.amount.Assertion.{Assertion}
use Rattle.book.specs.declared.amount.Cost.{Cost}
use Rattle.book.specs.declared.amount.Cost.TheVariants as costs
use Rattle.book.specs.declared.fault.Fault.{Fault}
use Rattle.hl_num.specs.Decimal.{Decimal}
use Rattle.entry_reader.specs.Amounts.{amount_at, assertion_at, assertion_from, cost_at}
use Rattle.entry_reader.specs.Causes.{◌>>=◌}
use Rattle.entry_reader.specs.Contexts.{Context, decided_mark}
use Rattle.entry_reader.specs.Lines.{after_white, before_white}
use Rattle.entry_reader.specs.Postings.{Numbers, Quantity, claim_at, comment_at, cost_behind, ends_line, is_written as is_quantity, numbers_at, numbers_of, quantity_at}
use Rattle.entry_reader.specs.Symbols.{ends_amount}
use Rattle.entry_reader.specs.declared.quantity.Holder.TheVariants as holder
use Rattle.journal_printer.specs.Amounts.{amount_text}
use Rattle.journal_printer.specs.Layout.{amount_field}
use Rattle.journal_printer.specs.Texts.{Shaping, assertion_sign, assertion_text, cost_text}
use Rattle.printed_entries.specs.Alike.{unshaped_amount, unshaped_claim, unshaped_cost}
use Rattle.printed_entries.specs.Shapes.{IsShape}
use Rattle.written_logs.proofs.Bytes.{after_white_solid, before_white_solid, skip_one}
use Rattle.printed_entries.proofs.Parts.{IsPart, ascii_text, line_behind, no_line, part_before, part_behind}
use Rattle.printed_entries.proofs.Remarks.{IsRemark, own_text}
use Rattle.printed_entries.proofs.Shown.{IsAmountShown, IsBehind, amount_in, amount_shown}
use Rattle.closed_journals.proofs.Texts.{IsText}
use Rattle.printed_entries.proofs.Told.{AmountIs, CostIs, WantedIs}
use Rattle.written_logs.proofs.Lines.{IsLine}

abbrev Costed : Type 0
Costed = Result (Option Cost × List ℕ) Fault

-- ---- the end of a line

-- a comment as the end of a line is read
abbrev pub end_of : List ℕ → List ℕ
end_of [] = []
end_of (b ∷ bs) = 59 ∷ 32 ∷ b ∷ bs

end_is : (own : List ℕ) → after_white (own_text own) ≡ end_of own
end_is [] = refl
end_is (b ∷ bs) = refl

end_behind : (own : List ℕ) → IsBehind (own_text own)
end_behind [] = record { symbol = refl; number = refl; ends = refl; apart = refl }
end_behind (b ∷ bs) = record { symbol = refl; number = refl; ends = refl; apart = refl }

pub end_line : (own : List ℕ) → IsRemark own → IsLine (own_text own)
end_line [] is = no_line
end_line (b ∷ bs) is =
    (part_behind (codes "  ; ") (b ∷ bs) (ascii_text (codes "  ; ") refl refl)
    (record { line = record { utf8 = is.utf8; line = is.line; last = is.last }; some = omega arith })).line

pub end_ends : (own : List ℕ) → ends_line (end_of own) ≡ true
end_ends [] = refl
end_ends (b ∷ bs) = refl

pub end_comment : (own : List ℕ) → IsRemark own → comment_at (end_of own) ≡ own
end_comment [] is = refl
end_comment (b ∷ bs) is = ap before_white (skip_one is_white 32 (b ∷ bs) refl ∙ after_white_solid (b ∷ bs) is.first) ∙ before_white_solid (b ∷ bs) is.last

end_costless : (context : Context) (line : ℕ) (own : List ℕ) → cost_at context line (end_of own) ≡ Ok (None, end_of own)
unfolding cost_at
end_costless context line [] = refl
end_costless context line (b ∷ bs) = refl

end_claimless : (y : ℕ) (context : Context) (line : ℕ) (own : List ℕ) → claim_at (holder.Entry y) context line (end_of own) ≡ Ok (None, end_of own)
unfolding claim_at
end_claimless y context line [] = refl
end_claimless y context line (b ∷ bs) = refl

-- ---- the assertion

abbrev Claimed : Type 0
Claimed = Result (Option Assertion × List ℕ) Fault

-- what an assertion's amount makes
abbrev claimed : Bool → Bool → Result (Amount × List ℕ) Fault → Claimed
claimed only below read =
    (read >>= λ a. (let r : Result (Assertion × List ℕ) Fault = Ok (assertion_from only below a.0, a.1) in r)) >>= λ w. (let r : Claimed = Ok (Some w.0, w.1) in r)

claim_step : (y : ℕ) (context : Context) (line : ℕ) (only below : Bool) (amount rest : List ℕ)
    → claim_at (holder.Entry y) context line (after_white ((assertion_sign only below ++ amount) ++ rest)) ≡ claimed only below (amount_at context line (after_white (32 ∷ (amount ++ rest))))
unfolding claim_at assertion_at
claim_step y context line false false amount rest = refl
claim_step y context line false true amount rest = refl
claim_step y context line true false amount rest = refl
claim_step y context line true true amount rest = refl

claim_costless : (context : Context) (line : ℕ) (only below : Bool) (amount rest : List ℕ)
    → cost_at context line (after_white ((assertion_sign only below ++ amount) ++ rest)) ≡ Ok (None, after_white ((assertion_sign only below ++ amount) ++ rest))
unfolding cost_at
claim_costless context line false false amount rest = refl
claim_costless context line false true amount rest = refl
claim_costless context line true false amount rest = refl
claim_costless context line true true amount rest = refl

claim_behind : (only below : Bool) (amount rest : List ℕ) → IsBehind ((assertion_sign only below ++ amount) ++ rest)
claim_behind false false amount rest = record { symbol = refl; number = refl; ends = refl; apart = refl }
claim_behind false true amount rest = record { symbol = refl; number = refl; ends = refl; apart = refl }
claim_behind true false amount rest = record { symbol = refl; number = refl; ends = refl; apart = refl }
claim_behind true true amount rest = record { symbol = refl; number = refl; ends = refl; apart = refl }

sign_text_is : (only below : Bool) → IsText (assertion_sign only below)
sign_text_is false false = ascii_text (codes " = ") refl refl
sign_text_is false true = ascii_text (codes " =* ") refl refl
sign_text_is true false = ascii_text (codes " == ") refl refl
sign_text_is true true = ascii_text (codes " ==* ") refl refl

-- a space and then an amount
spaced_amount : (context : Context) (line : ℕ) (symbol : List ℕ) (v : Decimal) (amount rest : List ℕ) → (is : IsAmountShown context symbol v amount) → IsBehind rest
    → amount_at context line (after_white (32 ∷ (amount ++ rest))) ≡ Ok (amount_in symbol v is.shape, after_white rest)
spaced_amount context line symbol v amount rest is behind =
    ap (amount_at context line) (skip_one is_white 32 (amount ++ rest) refl ∙ after_white_solid (amount ++ rest) (is.white rest)) ∙ is.read line rest behind

-- An assertion as it is shown, before the end of a line.
pub record IsClaimShown (y : ℕ) (context : Context) (wanted : Option Assertion) (text own : List ℕ) : Type 0 where
  pub again : Option Assertion
  pub alike : option_map unshaped_claim again ≡ option_map unshaped_claim wanted
  pub some : is_some again ≡ is_some wanted
  pub is_line : IsLine text
  pub part : is_some wanted ≡ true → IsPart text
  pub read : (line : ℕ) → claim_at (holder.Entry y) context line (after_white (text ++ own_text own)) ≡ Ok (again, end_of own)
  pub costless : (line : ℕ) → cost_at context line (after_white (text ++ own_text own)) ≡ Ok (None, after_white (text ++ own_text own))
  pub behind : IsBehind (text ++ own_text own)

claim_of : (y : ℕ) (context : Context) (own : List ℕ) (w : Assertion) (amount : List ℕ) → IsAmountShown context (w.amount).symbol (w.amount).value amount
    → IsClaimShown y context (Some w) (assertion_sign w.only w.below ++ amount) own
claim_of y context own w amount is = record {
  again = Some (assertion_from w.only w.below (amount_in (w.amount).symbol (w.amount).value is.shape));
  alike = refl;
  some = refl;
  is_line = (part_behind (assertion_sign w.only w.below) amount (sign_text_is w.only w.below) is.part).line;
  part = λ _. part_behind (assertion_sign w.only w.below) amount (sign_text_is w.only w.below) is.part;
  read = λ line.
      claim_step y context line w.only w.below amount (own_text own)
      ∙ ap (claimed w.only w.below) (spaced_amount context line (w.amount).symbol (w.amount).value amount (own_text own) is (end_behind own))
      ∙ ap (λ (t : List ℕ). let r : Claimed = Ok (Some (assertion_from w.only w.below (amount_in (w.amount).symbol (w.amount).value is.shape)), t) in r) (end_is own);
  costless = λ line. claim_costless context line w.only w.below amount (own_text own);
  behind = claim_behind w.only w.below amount (own_text own);
}

pub claim_shown : (y : ℕ) (context : Context) (shape : Shaping) (wanted : Option Assertion) (own : List ℕ) → context.usual ≡ None → ((a : Amount) → IsShape (decided_mark context a.symbol) (shape a)) → WantedIs wanted
    → IsClaimShown y context wanted (assertion_text shape wanted) own
claim_shown y context shape None own none shapes is = record {
  again = None;
  alike = refl;
  some = refl;
  is_line = no_line;
  part = λ never. absurd (false≢true never);
  read = λ line. ap (claim_at (holder.Entry y) context line) (end_is own) ∙ end_claimless y context line own;
  costless = λ line. ap (cost_at context line) (end_is own) ∙ end_costless context line own ∙ ap (λ (t : List ℕ). let r : Costed = Ok (None, t) in r) (sym (end_is own));
  behind = end_behind own;
}
claim_shown y context shape (Some w) own none shapes is =
    claim_of y context own w (amount_text (shape w.amount) false w.amount) (amount_shown context (shape w.amount) w.amount none (shapes w.amount) is)

-- ---- the cost

unit_step : (context : Context) (line : ℕ) (amount rest : List ℕ)
    → cost_at context line (after_white ((codes " @ " ++ amount) ++ rest)) ≡ (amount_at context line (after_white (32 ∷ (amount ++ rest))) >>= λ a. (let r : Costed = Ok (Some (costs.Unit a.0), a.1) in r))
unfolding cost_at
unit_step context line amount rest = refl

total_step : (context : Context) (line : ℕ) (amount rest : List ℕ)
    → cost_at context line (after_white ((codes " @@ " ++ amount) ++ rest)) ≡ (amount_at context line (after_white (32 ∷ (amount ++ rest))) >>= λ a. (let r : Costed = Ok (Some (costs.Total a.0), a.1) in r))
unfolding cost_at
total_step context line amount rest = refl

-- A cost as it is shown, before a text that isn't one.
pub record IsCostShown (context : Context) (cost : Option Cost) (text rest : List ℕ) : Type 0 where
  pub again : Option Cost
  pub alike : option_map unshaped_cost again ≡ option_map unshaped_cost cost
  pub is_line : IsLine text
  pub read : (line : ℕ) → cost_at context line (after_white (text ++ rest)) ≡ Ok (again, after_white rest)
  pub behind : IsBehind (text ++ rest)

pub cost_shown : (context : Context) (shape : Shaping) (cost : Option Cost) (rest : List ℕ) → context.usual ≡ None → ((a : Amount) → IsShape (decided_mark context a.symbol) (shape a)) → CostIs cost
    → IsBehind rest → ((line : ℕ) → cost_at context line (after_white rest) ≡ Ok (None, after_white rest)) → IsCostShown context cost (cost_text shape false cost) rest
cost_shown context shape None rest none shapes is behind costless = record { again = None; alike = refl; is_line = no_line; read = costless; behind = behind }
cost_shown context shape (Some (costs.Unit a)) rest none shapes is behind costless =
    let shown = amount_shown context (shape a) a none (shapes a) is in
    let amount = amount_text (shape a) false a in
    record {
      again = Some (costs.Unit (amount_in a.symbol a.value shown.shape));
      alike = refl;
      is_line = (part_behind (codes " @ ") amount (ascii_text (codes " @ ") refl refl) shown.part).line;
      read = λ line.
          unit_step context line amount rest
          ∙ ap (λ (r : Result (Amount × List ℕ) Fault). r >>= λ b. (let s : Costed = Ok (Some (costs.Unit b.0), b.1) in s)) (spaced_amount context line a.symbol a.value amount rest shown behind);
      behind = record { symbol = refl; number = refl; ends = refl; apart = refl };
    }
cost_shown context shape (Some (costs.Total a)) rest none shapes is behind costless =
    let shown = amount_shown context (shape a) a none (shapes a) is in
    let amount = amount_text (shape a) false a in
    record {
      again = Some (costs.Total (amount_in a.symbol a.value shown.shape));
      alike = refl;
      is_line = (part_behind (codes " @@ ") amount (ascii_text (codes " @@ ") refl refl) shown.part).line;
      read = λ line.
          total_step context line amount rest
          ∙ ap (λ (r : Result (Amount × List ℕ) Fault). r >>= λ b. (let s : Costed = Ok (Some (costs.Total b.0), b.1) in s)) (spaced_amount context line a.symbol a.value amount rest shown behind);
      behind = record { symbol = refl; number = refl; ends = refl; apart = refl };
    }

-- ---- all numbers of a posting

abbrev Numbered : Type 0
Numbered = Result (Numbers × List ℕ) Fault

abbrev after_claim : Quantity → Option Cost → Context → ℕ → Option Assertion × List ℕ → Numbered
after_claim q cost context line w =
    cost_behind (is_some q.0 && is_some w.0) context line w.1 >>= λ ignored. (let r : Numbered = Ok (numbers_of q.0 q.1 cost w.0, ignored.1) in r)

abbrev after_cost : ℕ → Quantity → Context → ℕ → Option Cost × List ℕ → Numbered
after_cost y q context line c = claim_at (holder.Entry y) context line c.1 >>= after_claim q c.0 context line

abbrev after_quantity : ℕ → Context → ℕ → Quantity × List ℕ → Numbered
after_quantity y context line q = cost_behind (is_quantity q.0) context line q.1 >>= after_cost y q.0 context line

numbers_open : (y : ℕ) (context : Context) (line : ℕ) (text : List ℕ) → numbers_at (holder.Entry y) context line text ≡ (quantity_at (holder.Entry y) context line text >>= after_quantity y context line)
unfolding numbers_at
numbers_open y context line text = refl

numbers_by : (y : ℕ) (context : Context) (line : ℕ) (text one two end : List ℕ) (q : Quantity) (cost : Option Cost) (wanted : Option Assertion)
    → quantity_at (holder.Entry y) context line text ≡ Ok (q, one) → cost_behind (is_quantity q) context line one ≡ Ok (cost, two)
    → claim_at (holder.Entry y) context line two ≡ Ok (wanted, end) → cost_behind (is_some q.0 && is_some wanted) context line end ≡ Ok (None, end)
    → numbers_at (holder.Entry y) context line text ≡ Ok (numbers_of q.0 q.1 cost wanted, end)
numbers_by y context line text one two end q cost wanted quantity cost_is wanted_is ignored =
    numbers_open y context line text
    ∙ ap (λ (r : Result (Quantity × List ℕ) Fault). r >>= after_quantity y context line) quantity
    ∙ ap (λ (r : Costed). r >>= after_cost y q context line) cost_is
    ∙ ap (λ (r : Claimed). r >>= after_claim q cost context line) wanted_is
    ∙ ap (λ (r : Costed). r >>= λ c. (let s : Numbered = Ok (numbers_of q.0 q.1 cost wanted, c.1) in s)) ignored

quantity_none : (y : ℕ) (context : Context) (line : ℕ) (text : List ℕ) → ends_amount text ≡ true → quantity_at (holder.Entry y) context line text ≡ Ok ((None, None), text)
unfolding quantity_at
quantity_none y context line text h =
    ap (λ (t : Bool). cond {A = Result (Quantity × List ℕ) Fault} t (Ok ((None, None), text)) (amount_at context line text >>= λ a. Ok ((Some a.0, None), a.1))) h

quantity_some : (y : ℕ) (context : Context) (line : ℕ) (text rest : List ℕ) (a : Amount) → ends_amount text ≡ false → amount_at context line text ≡ Ok (a, rest)
    → quantity_at (holder.Entry y) context line text ≡ Ok ((Some a, None), rest)
unfolding quantity_at
quantity_some y context line text rest a h e =
    ap (λ (t : Bool). cond {A = Result (Quantity × List ℕ) Fault} t (Ok ((None, None), text)) (amount_at context line text >>= λ b. Ok ((Some b.0, None), b.1))) h
    ∙ ap (λ (r : Result (Amount × List ℕ) Fault). r >>= λ b. (let s : Result (Quantity × List ℕ) Fault = Ok ((Some b.0, None), b.1) in s)) e

ignored_by : (context : Context) (line : ℕ) (own : List ℕ) (t : Bool) → cost_behind t context line (end_of own) ≡ Ok (None, end_of own)
ignored_by context line own true = end_costless context line own
ignored_by context line own false = refl

-- The numbers of a posting as they are shown, before the end of a line.
pub record AreNumbersShown (y : ℕ) (context : Context) (amount : Option Amount) (cost : Option Cost) (wanted : Option Assertion) (text own : List ℕ) : Type 0 where
  pub amount_again : Option Amount
  pub cost_again : Option Cost
  pub wanted_again : Option Assertion
  pub amount_alike : option_map unshaped_amount amount_again ≡ option_map unshaped_amount amount
  pub cost_alike : option_map unshaped_cost cost_again ≡ option_map unshaped_cost cost
  pub wanted_alike : option_map unshaped_claim wanted_again ≡ option_map unshaped_claim wanted
  pub amount_some : is_some amount_again ≡ is_some amount
  pub wanted_some : is_some wanted_again ≡ is_some wanted
  pub is_line : IsLine text
  pub part : (is_some amount || is_some wanted) ≡ true → IsPart text
  pub read : (line : ℕ) → numbers_at (holder.Entry y) context line (after_white text) ≡ Ok (numbers_of amount_again None cost_again wanted_again, end_of own)

-- the numbers of a posting, and the comment behind them
abbrev pub numbers_text : Shaping → Option Amount → Option Cost → Option Assertion → List ℕ → List ℕ
numbers_text shape amount cost wanted own = amount_field shape false amount ++ (cost_text shape false cost ++ (assertion_text shape wanted ++ own_text own))

some_none : (k : Cost) → Some k ≡ None → ⊥
some_none k h = cc

pub numbers_shown : (y : ℕ) (context : Context) (shape : Shaping) (amount : Option Amount) (cost : Option Cost) (wanted : Option Assertion) (own : List ℕ) → context.usual ≡ None
    → ((a : Amount) → IsShape (decided_mark context a.symbol) (shape a)) → AmountIs amount → CostIs cost → (amount ≡ None → cost ≡ None) → WantedIs wanted → IsRemark own
    → AreNumbersShown y context amount cost wanted (numbers_text shape amount cost wanted own) own
numbers_shown y context shape None None wanted own none shapes a c costless w remark =
    let claim = claim_shown y context shape wanted own none shapes w in
    record {
      amount_again = None;
      cost_again = None;
      wanted_again = claim.again;
      amount_alike = refl;
      cost_alike = refl;
      wanted_alike = claim.alike;
      amount_some = refl;
      wanted_some = claim.some;
      is_line = line_behind (assertion_text shape wanted) (own_text own) claim.is_line (end_line own remark);
      part = λ some. part_before (assertion_text shape wanted) (own_text own) (claim.part some) (end_line own remark);
      read = λ line.
          numbers_by y context line (after_white (assertion_text shape wanted ++ own_text own)) (after_white (assertion_text shape wanted ++ own_text own)) (after_white (assertion_text shape wanted ++ own_text own)) (end_of own) (None, None) None claim.again
          (quantity_none y context line (after_white (assertion_text shape wanted ++ own_text own)) (claim.behind).ends) refl (claim.read line) refl;
    }
numbers_shown y context shape None (Some k) wanted own none shapes a c costless w remark = absurd (some_none k (costless refl))
numbers_shown y context shape (Some b) cost wanted own none shapes a c costless w remark =
    let claim = claim_shown y context shape wanted own none shapes w in
    let rest = assertion_text shape wanted ++ own_text own in
    let price = cost_shown context shape cost rest none shapes c claim.behind claim.costless in
    let more = cost_text shape false cost ++ rest in
    let shown = amount_shown context (shape b) b none (shapes b) a in
    let amount = amount_text (shape b) false b in
    let behind = line_behind (cost_text shape false cost) rest price.is_line (line_behind (assertion_text shape wanted) (own_text own) claim.is_line (end_line own remark)) in
    record {
      amount_again = Some (amount_in b.symbol b.value shown.shape);
      cost_again = price.again;
      wanted_again = claim.again;
      amount_alike = refl;
      cost_alike = price.alike;
      wanted_alike = claim.alike;
      amount_some = refl;
      wanted_some = claim.some;
      is_line = (part_before amount more shown.part behind).line;
      part = λ _. part_before amount more shown.part behind;
      read = λ line.
          ap (numbers_at (holder.Entry y) context line) (after_white_solid (amount ++ more) (shown.white more))
          ∙ numbers_by y context line (amount ++ more) (after_white more) (after_white rest) (end_of own) (Some (amount_in b.symbol b.value shown.shape), None) price.again claim.again
          (quantity_some y context line (amount ++ more) (after_white more) (amount_in b.symbol b.value shown.shape) (shown.goes_on more) (shown.read line more price.behind))
          (price.read line) (claim.read line) (ignored_by context line own (is_some claim.again));
    }
