-- How a connection may end, and the status of each end.
use Rattle.std.proofs.Common.{◌≡◌, ◌⊎◌, inl, inr, ℕ, List, Option, length, refl, sym, ◌∙◌, subst, arith}
use Rattle.hl_base.specs.Causes.{Rose}
use Rattle.web_desk.specs.Counts.{Counted}
use Rattle.web_desk.specs.declared.conn_end.ConnEnd.{ConnEnd}
use Rattle.web_desk.specs.declared.conn_end.ConnEnd.TheVariants as conn
use Rattle.web_desk.specs.declared.conn_end.Way.{Way}
use Rattle.web_desk.specs.declared.conn_end.Way.TheVariants.{Read, Write}
use Rattle.command_line.specs.Answers.{IsStatus, Says}
use Rattle.refusals.specs.Errors.{read_fault_line, write_fault_line}
use Rattle.command_line.specs.Talks.{TellsEnd, end_line, end_status}

-- the status is that of the end, or a line couldn't be written
pub own : (end : ConnEnd) (status : ℕ) (old new : Option (List ℕ)) (fo fn : ℕ) → TellsEnd end status old new fo fn → (status ≡ end_status end) ⊎ ((status ≡ 4) × Rose fo fn)
own conn.Closed status old new fo fn h = inl h.0
own (conn.LinkFault Read) status old new fo fn (inl h) = inl h.0
own (conn.LinkFault Read) status old new fo fn (inr h) = inr (h.0, h.1)
own (conn.LinkFault Write) status old new fo fn (inl h) = inl h.0
own (conn.LinkFault Write) status old new fo fn (inr h) = inr (h.0, h.1)
own (conn.BadHead at) status old new fo fn (inl h) = inl h.0
own (conn.BadHead at) status old new fo fn (inr h) = inr (h.0, h.1)
own conn.HeadTooLong status old new fo fn (inl h) = inl h.0
own conn.HeadTooLong status old new fo fn (inr h) = inr (h.0, h.1)
own (conn.BodyTooLong said) status old new fo fn (inl h) = inl h.0
own (conn.BodyTooLong said) status old new fo fn (inr h) = inr (h.0, h.1)
own (conn.CutOff had said) status old new fo fn (inl h) = inl h.0
own (conn.CutOff had said) status old new fo fn (inr h) = inr (h.0, h.1)
own conn.Spent status old new fo fn (inl h) = inl h.0
own conn.Spent status old new fo fn (inr h) = inr (h.0, h.1)
own (conn.HeadCut had) status old new fo fn (inl h) = inl h.0
own (conn.HeadCut had) status old new fo fn (inr h) = inr (h.0, h.1)
own conn.Memory status old new fo fn (inl h) = inl h.0
own conn.Memory status old new fo fn (inr h) = inr (h.0, h.1)

own_kind : (end : ConnEnd) → IsStatus (end_status end)
own_kind conn.Closed = inl refl
own_kind (conn.LinkFault Read) = inr (inr (inl refl))
own_kind (conn.LinkFault Write) = inr (inr (inr (inl refl)))
own_kind (conn.BadHead at) = inr (inl (inl (inl refl)))
own_kind conn.HeadTooLong = inr (inl (inl (inl refl)))
own_kind (conn.BodyTooLong said) = inr (inl (inl (inl refl)))
own_kind (conn.CutOff had said) = inr (inl (inl (inl refl)))
own_kind conn.Spent = inr (inl (inl (inl refl)))
own_kind (conn.HeadCut had) = inr (inl (inl (inl refl)))
own_kind conn.Memory = inr (inr (inr (inr (inr refl))))

pub kind : (end : ConnEnd) (status : ℕ) (fo fn : ℕ) → (status ≡ end_status end) ⊎ ((status ≡ 4) × Rose fo fn) → IsStatus status
kind end status fo fn (inl h) = subst (λ (n : ℕ). IsStatus n) (sym h) (own_kind end)
kind end status fo fn (inr h) = inr (inr (inr (inl h.0)))

own_read : (end : ConnEnd) → end_status end ≡ 2 → ⊥
own_read conn.Closed e = omega (arith, e)
own_read (conn.LinkFault Read) e = omega (arith, e)
own_read (conn.LinkFault Write) e = omega (arith, e)
own_read (conn.BadHead at) e = omega (arith, e)
own_read conn.HeadTooLong e = omega (arith, e)
own_read (conn.BodyTooLong said) e = omega (arith, e)
own_read (conn.CutOff had said) e = omega (arith, e)
own_read conn.Spent e = omega (arith, e)
own_read (conn.HeadCut had) e = omega (arith, e)
own_read conn.Memory e = omega (arith, e)

-- the words have been read
pub never_usage : (end : ConnEnd) (status : ℕ) (fo fn : ℕ) → (status ≡ end_status end) ⊎ ((status ≡ 4) × Rose fo fn) → status ≡ 2 → ⊥
never_usage end status fo fn (inl h) e = own_read end (sym h ∙ e)
never_usage end status fo fn (inr h) e = omega (arith, h.0, e)

own_three : (end : ConnEnd) → end_status end ≡ 3 → end ≡ conn.LinkFault Read
own_three conn.Closed e = absurd (omega (arith, e))
own_three (conn.LinkFault Read) e = refl
own_three (conn.LinkFault Write) e = absurd (omega (arith, e))
own_three (conn.BadHead at) e = absurd (omega (arith, e))
own_three conn.HeadTooLong e = absurd (omega (arith, e))
own_three (conn.BodyTooLong said) e = absurd (omega (arith, e))
own_three (conn.CutOff had said) e = absurd (omega (arith, e))
own_three conn.Spent e = absurd (omega (arith, e))
own_three (conn.HeadCut had) e = absurd (omega (arith, e))
own_three conn.Memory e = absurd (omega (arith, e))

-- status 3 is that of a read that failed
pub unread : (end : ConnEnd) (status : ℕ) (fo fn : ℕ) → (status ≡ end_status end) ⊎ ((status ≡ 4) × Rose fo fn) → status ≡ 3 → end ≡ conn.LinkFault Read
unread end status fo fn (inl h) e = own_three end (sym h ∙ e)
unread end status fo fn (inr h) e = absurd (omega (arith, h.0, e))

own_four : (end : ConnEnd) → end_status end ≡ 4 → end ≡ conn.LinkFault Write
own_four conn.Closed e = absurd (omega (arith, e))
own_four (conn.LinkFault Read) e = absurd (omega (arith, e))
own_four (conn.LinkFault Write) e = refl
own_four (conn.BadHead at) e = absurd (omega (arith, e))
own_four conn.HeadTooLong e = absurd (omega (arith, e))
own_four (conn.BodyTooLong said) e = absurd (omega (arith, e))
own_four (conn.CutOff had said) e = absurd (omega (arith, e))
own_four conn.Spent e = absurd (omega (arith, e))
own_four (conn.HeadCut had) e = absurd (omega (arith, e))
own_four conn.Memory e = absurd (omega (arith, e))

-- status 4 is that of a write that failed
pub unwritten : (end : ConnEnd) (status : ℕ) (fo fn : ℕ) → (status ≡ end_status end) ⊎ ((status ≡ 4) × Rose fo fn) → status ≡ 4 → (end ≡ conn.LinkFault Write) ⊎ Rose fo fn
unwritten end status fo fn (inl h) e = inl (own_four end (sym h ∙ e))
unwritten end status fo fn (inr h) e = inr h.1

-- which fault of the link was counted
pub read_counted : (end : ConnEnd) (ro rn wo wn : ℕ) → end ≡ conn.LinkFault Read → Counted end ro rn wo wn → Rose ro rn
read_counted end ro rn wo wn e c =
    let F : ConnEnd → Type 0 = λ x. Counted x ro rn wo wn in
    let rose : F (conn.LinkFault Read) = subst F e c in
    rose.0

pub write_counted : (end : ConnEnd) (ro rn wo wn fo fn : ℕ) → (end ≡ conn.LinkFault Write) ⊎ Rose fo fn → Counted end ro rn wo wn → Rose wo wn ⊎ Rose fo fn
write_counted end ro rn wo wn fo fn (inl e) c =
    let F : ConnEnd → Type 0 = λ x. Counted x ro rn wo wn in
    let rose : F (conn.LinkFault Write) = subst F e c in
    inl rose.1
write_counted end ro rn wo wn fo fn (inr h) c = inr h

-- a fault of the link is told by its line
pub fault_read : (way : Way) (status : ℕ) (old new : Option (List ℕ)) (fo fn : ℕ) → way ≡ Read → Says status 3 read_fault_line old new fo fn → TellsEnd (conn.LinkFault way) status old new fo fn
fault_read way status old new fo fn e h =
    let F : Way → Type 0 = λ w. TellsEnd (conn.LinkFault w) status old new fo fn in
    subst F (sym e) h

pub fault_write : (way : Way) (status : ℕ) (old new : Option (List ℕ)) (fo fn : ℕ) → way ≡ Write → Says status 4 write_fault_line old new fo fn → TellsEnd (conn.LinkFault way) status old new fo fn
fault_write way status old new fo fn e h =
    let F : Way → Type 0 = λ w. TellsEnd (conn.LinkFault w) status old new fo fn in
    subst F (sym e) h

-- and has its status, where there is room for the line
pub sound_read : (way : Way) (status : ℕ) (HasRoom : ℕ → Type 0) → way ≡ Read → (HasRoom (length read_fault_line) → status ≡ 3)
    → HasRoom (length (end_line (conn.LinkFault way))) → status ≡ end_status (conn.LinkFault way)
sound_read way status HasRoom e h =
    let F : Way → Type 0 = λ w. HasRoom (length (end_line (conn.LinkFault w))) → status ≡ end_status (conn.LinkFault w) in
    subst F (sym e) h

pub sound_write : (way : Way) (status : ℕ) (HasRoom : ℕ → Type 0) → way ≡ Write → (HasRoom (length write_fault_line) → status ≡ 4)
    → HasRoom (length (end_line (conn.LinkFault way))) → status ≡ end_status (conn.LinkFault way)
sound_write way status HasRoom e h =
    let F : Way → Type 0 = λ w. HasRoom (length (end_line (conn.LinkFault w))) → status ≡ end_status (conn.LinkFault w) in
    subst F (sym e) h
