-- What the machine was asked and what it replied.
use Rattle.std.specs.Prelude.{ℕ}
use Rattle.hl_time.specs.declared.day.Day.{Day}
use Rattle.desk.specs.declared.request.Request.{Request}
use Rattle.desk.specs.declared.reply.Reply.{Reply}

-- one request with its day, the reply, and the revision after it
pub record Entry : Type 0 where
  pub request : Request
  pub day : Day
  pub reply : Reply
  pub revision : ℕ
