use Rattle.std.proofs.Common.{◌∙◌, Option, None, List, refl, ap, subst, take, IfSome}
use Rattle.text_store.specs.declared.folding.Content.{Content}
use Rattle.text_store.specs.Contents.{if_content_in_code}
use Rattle.text_store.specs.Entries.{Entry}
use Rattle.text_store.specs.Files.{AreWritable}
use Rattle.text_store.specs.Image.{live_of}
use Rattle.text_store.proofs.Choosing.{other_kind, live_is, half_is}
use Rattle.text_store.proofs.Reading.{begins}
use Rattle.text_store.proofs.Wholes.{live_nothing}
use Rattle.text_store.proofs.finding.live_half.Goals as goal

pub returns-in_default : goal.returns-in_default
returns-in_default c =
    let file = c.args.file.now in
    ap (λ (l : List Entry). live_of (take 32 file) l) (begins 32 file ∙ c.in_default.ensures) ∙ live_nothing (take 32 file)

pub returns-then-record-ne67 : goal.returns-then-record-ne67
returns-then-record-ne67 c = other_kind c.args.file.now c.in-Some.record c.in-Some.ensures c.if-record-ne67.true

pub returns-in_default-2 : goal.returns-in_default-2
returns-in_default-2 c =
    live_is c.args.file.now c.in-Some.record c.in-Some.ensures c.in-Some-head_of.head c.in-Some-head_of.ensures c.if-record-ne67.false None
    (c.in_ok-start.ensures.reads ∙ ap if_content_in_code c.in_default-2.is)

pub returns : goal.returns
returns c =
    half_is c.args.file.now c.in-Some.record c.in-Some.ensures c.in-Some-head_of.head c.in-Some-head_of.ensures c.if-record-ne67.false _ refl refl refl refl
    (c.in_ok-start.ensures.reads ∙ ap if_content_in_code c.in-Some-2.is)
    (subst (λ (o : Option Content). IfSome o (λ content. AreWritable content.latest.states.items)) c.in-Some-2.is c.in_ok-start.ensures.writable)
