use Rattle.std.proofs.Common.{◌≡◌, ◌∙◌, List, [], ℕ, length, get_or, refl, sym, ap, subst, arith}
use Rattle.std.proofs.lemmas.Result.{err_from_is_err_and}
use Rattle.follower.specs.Fills.{FillsOn}
use Rattle.follower.proofs.Filled.{all_read, next_refused}
use Rattle.follower.proofs.Heading.{cut_after, ends_early, none_begins, kind_begins, kind_refused}
use Rattle.follower.proofs.heads.next_kind.Goals as goal

pub fill-requires : goal.fill-requires
fill-requires g c = omega (arith, ap (λ (l : List ℕ). length l) c.requires, c.args.read.now.ok.0)

pub returns-in_err-fill-clause-refused : goal.returns-in_err-fill-clause-refused
returns-in_err-fill-clause-refused g c =
    let source = g.J.Source in
    let p = err_from_is_err_and c.from_residual.result c.from_residual.ensures.1 in
    rw (p.1, p.2) (next_refused (source.left c.args.source.now) (source.faults c.args.source.now) (source.faults c.args.source.now) (source.faults c.fill.new.source) c.in_err-fill.field-0.0 refl
    c.in_err-fill.ensures.refused)

pub returns-then-had-eq0-clause-found : goal.returns-then-had-eq0-clause-found
returns-then-had-eq0-clause-found g c =
    let source = g.J.Source in
    let new = c.fill.new.bytes.items in
    let fills : FillsOn (source.left c.args.source.now) (source.left c.fill.new.source) [] new =
    subst (λ (l : List ℕ). FillsOn (source.left c.args.source.now) (source.left c.fill.new.source) l new) c.requires c.in_ok-fill.ensures.read in
    none_begins (source.left c.args.source.now) (source.left c.fill.new.source) new (omega (arith, c.if-had-eq0.true, c.len-had.ensures, c.fill.new.bytes.ok.0)) fills
    (c.in_ok-fill.ensures.end (omega (arith, c.if-had-eq0.true, c.len-had.ensures)))

pub returns-then-had-lt9-clause-refused : goal.returns-then-had-lt9-clause-refused
returns-then-had-lt9-clause-refused g c =
    let source = g.J.Source in
    let new = c.fill.new.bytes.items in
    let fills : FillsOn (source.left c.args.source.now) (source.left c.fill.new.source) [] new =
    subst (λ (l : List ℕ). FillsOn (source.left c.args.source.now) (source.left c.fill.new.source) l new) c.requires c.in_ok-fill.ensures.read in
    let size : c.len-had.result ≡ length new = omega (arith, c.len-had.ensures, c.fill.new.bytes.ok.0) in
    cut_after (source.left c.args.source.now) new c.len-had.result
    (all_read (source.left c.args.source.now) (source.left c.fill.new.source) [] new fills (c.in_ok-fill.ensures.end (omega (arith, c.if-had-lt9.true, c.len-had.ensures))))
    (ends_early new (omega (arith, size, c.if-had-eq0.false)) (omega (arith, size, c.if-had-lt9.true))) size

pub returns-then-not-is_kind-clause-refused : goal.returns-then-not-is_kind-clause-refused
returns-then-not-is_kind-clause-refused g c =
    let source = g.J.Source in
    let new = c.fill.new.bytes.items in
    let fills : FillsOn (source.left c.args.source.now) (source.left c.fill.new.source) [] new =
    subst (λ (l : List ℕ). FillsOn (source.left c.args.source.now) (source.left c.fill.new.source) l new) c.requires c.in_ok-fill.ensures.read in
    kind_refused (source.left c.args.source.now) (source.left c.fill.new.source) new c.kind_in-kind.result
    (omega (arith, c.if-had-lt9.false, c.len-had.ensures, c.fill.ensures.within, c.fill.new.bytes.ok.0))
    (c.kind_in-kind.ensures ∙ ap (λ (l : List ℕ). get_or l 8 0) c.as_slice.ensures.value) (sym c.is_kind.ensures ∙ c.if-not-is_kind.true) fills

pub returns-clause-found : goal.returns-clause-found
returns-clause-found g c =
    let source = g.J.Source in
    let new = c.fill.new.bytes.items in
    let fills : FillsOn (source.left c.args.source.now) (source.left c.fill.new.source) [] new =
    subst (λ (l : List ℕ). FillsOn (source.left c.args.source.now) (source.left c.fill.new.source) l new) c.requires c.in_ok-fill.ensures.read in
    kind_begins (source.left c.args.source.now) (source.left c.fill.new.source) new c.kind_in-kind.result
    (omega (arith, c.if-had-lt9.false, c.len-had.ensures, c.fill.ensures.within, c.fill.new.bytes.ok.0))
    (c.kind_in-kind.ensures ∙ ap (λ (l : List ℕ). get_or l 8 0) c.as_slice.ensures.value) (sym c.is_kind.ensures ∙ c.if-not-is_kind.false) fills

pub returns-clause-nine : goal.returns-clause-nine
returns-clause-nine g c = (omega (arith, c.if-had-lt9.false, c.len-had.ensures, c.fill.ensures.within), sym c.is_kind.ensures ∙ c.if-not-is_kind.false)
