use Rattle.std.proofs.Common.{◌≡◌, ◌≤◌, ℕ, Option, List, IfSome, length, take, sym, rules, subst}
use Rattle.hl_base.specs.Disk.{ReadsAt}
use Rattle.text_store.proofs.Unwritten.{front_more}
use Rattle.text_store.proofs.disk_whole.read_more.Goals as goal

pub returns-clause-read : goal.returns-clause-read
returns-clause-read g c file told le front =
    let bytes = c.args.bytes.now.items in
    let count = c.in_ok-count.count in
    let room = c.read.new.room in
    let size : c.len.result ≡ length bytes = search rules in
    let reads : ReadsAt file (length bytes) count c.args.room.now room =
    subst (λ (n : ℕ). ReadsAt file n count c.args.room.now room) size
    (subst (λ (o : Option (List ℕ)). IfSome o (λ f. ReadsAt f c.len.result count c.args.room.now room)) told c.in_ok-count.ensures.bytes) in
    subst (λ (l : List ℕ). (l ≡ take (length l) file) × (length l ≤ length file) × (length l ≡ length bytes → length file ≤ length l))
    (sym c.in_ok-extend_from_slice.ensures.items) (front_more file bytes c.args.room.now room count c.requires le front reads)
