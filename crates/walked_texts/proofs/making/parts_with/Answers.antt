use Rattle.std.proofs.Common.{◌≡◌, [], List, refl, sym, subst}
use Rattle.std.specs.List.{AllByRecursion}
use Rattle.book.specs.declared.transaction.Txn.{Txn}
use Rattle.walked_texts.specs.declared.making.Parts.{Parts}
use Rattle.walked_texts.proofs.Telling.{fits_slices, inside_slices, made_parts, once_slice, sums_slices}
use Rattle.walked_texts.proofs.making.parts_with.Goals as goal

pub with_forms-requires-clause-inside : goal.with_forms-requires-clause-inside
with_forms-requires-clause-inside c =
    inside_slices c.args.book.now c.args.vacants.items c.as_slice.result.now c.args.walk.forms.items c.as_slice-2.result.now c.as_slice.ensures.value c.as_slice-2.ensures.value c.requires.inside

pub with_forms-requires-clause-once : goal.with_forms-requires-clause-once
with_forms-requires-clause-once c = once_slice c.args.walk.forms.items c.as_slice-2.result.now c.as_slice-2.ensures.value c.requires.once

pub sums_walked-requires-clause-sums : goal.sums_walked-requires-clause-sums
sums_walked-requires-clause-sums c = c.requires.sums_are

pub sums_walked-requires-clause-vacants : goal.sums_walked-requires-clause-vacants
sums_walked-requires-clause-vacants c = subst (λ (v : List Txn). AllByRecursion (λ (t : Txn). t.postings ≡ []) v) (sym c.as_slice-3.ensures.value) c.requires.blank

pub sums_walked-requires-clause-inside : goal.sums_walked-requires-clause-inside
sums_walked-requires-clause-inside c =
    inside_slices c.args.book.now c.args.vacants.items c.as_slice-3.result.now c.args.walk.forms.items c.as_slice-4.result.now c.as_slice-3.ensures.value c.as_slice-4.ensures.value c.requires.inside

pub sums_walked-requires-clause-once : goal.sums_walked-requires-clause-once
sums_walked-requires-clause-once c = once_slice c.args.walk.forms.items c.as_slice-4.result.now c.as_slice-4.ensures.value c.requires.once

pub sums_walked-requires-clause-fits : goal.sums_walked-requires-clause-fits
sums_walked-requires-clause-fits c =
    fits_slices c.args.book.now c.args.vacants.items c.as_slice-3.result.now c.args.walk.forms.items c.as_slice-4.result.now c.as_slice-3.ensures.value c.as_slice-4.ensures.value c.requires.fits

pub returns : goal.returns
returns c = λ items can.
    let book = c.args.book.now in
    let p : Parts = record { forms = c.args.walk.forms; vacants = c.args.vacants; edited = c.in_ok-whole.whole; end = c.in_ok-end.end; kept = record { walks = c.args.walk.walks; sums = c.in_ok-sums.sums } } in
    made_parts items book c.args.vacants.items c.args.edited c.args.walk can c.as_slice.result.now c.as_slice-2.result.now p c.in_ok-sums.sums
    c.as_slice.ensures.value c.as_slice-2.ensures.value refl refl refl
    (sums_slices c.in_ok-sums.sums book c.args.vacants.items c.as_slice-3.result.now c.args.walk.forms.items c.as_slice-4.result.now c.as_slice-3.ensures.value c.as_slice-4.ensures.value c.in_ok-sums.ensures)
    c.in_ok-whole.ensures c.in_ok-end.ensures
