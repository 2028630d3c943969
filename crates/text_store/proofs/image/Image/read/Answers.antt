use Rattle.std.proofs.Common.{◌≡◌, ◌∙◌, Option, Some, IfSome, refl, sym, ap, subst}
use Rattle.text_store.specs.declared.folding.Content.{Content}
use Rattle.text_store.specs.declared.image.Image.{Image}
use Rattle.text_store.specs.Contents.{if_content_in_code}
use Rattle.text_store.specs.Edits.{content_in}
use Rattle.text_store.specs.Files.{AreWritable, IsWritable}
use Rattle.text_store.specs.Image.{checkpointed}
use Rattle.text_store.proofs.Choosing.{writable_image}
use Rattle.text_store.proofs.image.Image.read.Goals as goal

pub returns-in-None : goal.returns-in-None
returns-in-None c = c.in_ok-whole_content.ensures.reads ∙ ap if_content_in_code c.in-None.is

pub returns-in-Some : goal.returns-in-Some
returns-in-Some c =
    let payload = c.args.payload.now in
    let content = c.in-Some.content in
    let made : Image = record { text = content.text.items; latest = content.latest.states.items; revision = c.args.revision } in
    subst (λ (i : Image). (checkpointed payload ≡ Some (content_in i)) × (i.revision ≡ c.args.revision) × IsWritable i) (sym c.image_of.ensures) (
      c.in_ok-whole_content.ensures.reads ∙ ap if_content_in_code c.in-Some.is,
      refl,
      writable_image made (subst (λ (o : Option Content). IfSome o (λ content. AreWritable content.latest.states.items)) c.in-Some.is c.in_ok-whole_content.ensures.writable),
    )
