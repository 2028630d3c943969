-- The order of watches is total.
use Rattle.std.specs.Cmp.{IsTotalOrder, bool_cmp_total}
use Rattle.std.proofs.lemmas.Cmp.{on_total, then_total, nat_list_cmp_total, nat_cmp_total}
use Rattle.watchers.specs.declared.watch.Place.{Place}
use Rattle.watchers.specs.declared.watch.Watch.{Watch}
use Rattle.watchers.specs.Order.{kind_cmp, place_cmp, watch_cmp}

pub place_total : IsTotalOrder place_cmp
place_total =
    then_total (on_total (λ (p : Place). p.day.0) nat_cmp_total)
    (then_total (on_total (λ (p : Place). p.txn) nat_cmp_total) (on_total (λ (p : Place). p.posting) nat_cmp_total))

pub kind_total : IsTotalOrder (λ (a b : Watch). kind_cmp a.account a.below b)
kind_total = then_total (on_total (λ (w : Watch). w.account) nat_list_cmp_total) (on_total (λ (w : Watch). w.below) bool_cmp_total)

pub watch_total : IsTotalOrder watch_cmp
watch_total = then_total kind_total (on_total (λ (w : Watch). w.place) place_total)
