use Rattle.std.proofs.Common.{[], ◌∷◌, ap, sym, ◌∙◌}
use Rattle.std.specs.List.{starts_with}
use Rattle.std.specs.Bool.{nat_eq}
use Rattle.hl_base.specs.Ascii.{colon}
use Rattle.book.proofs.Names.{begun, not_begun}
use Rattle.book.proofs.account.lies_below.Goals as goal

pub returns-then-not-starts_with : goal.returns-then-not-starts_with
returns-then-not-starts_with c = not_begun nat_eq c.args.account.now (colon ∷ []) c.args.name.now (sym c.starts_with.ensures.value ∙ c.if-not-starts_with.true)

pub returns : goal.returns
returns c =
    begun nat_eq c.args.account.now (colon ∷ []) c.args.name.now c.starts_with-2.result (sym c.starts_with.ensures.value ∙ c.if-not-starts_with.false)
    (c.starts_with-2.ensures.value ∙ ap (λ xs. starts_with nat_eq xs (colon ∷ [])) c.split_at.ensures.back)
