use Rattle.std.proofs.Common.{inl, inr, refl}
use Rattle.store_following.proofs.replicas.follow_disks.Goals as goal

pub returns-in-Ok : goal.returns-in-Ok
returns-in-Ok g c =
    let o = c.in-Ok.ensures in
    inl (record {
      asked = (c.are_empty.new.first, c.are_empty.new.second);
      reads = c.are_empty.ensures.reads;
      same = o.same;
      empty = c.in-Ok.empty;
      are = o.empty;
      by_length = c.by_length.ensures;
    })

pub returns-in-Err : goal.returns-in-Err
returns-in-Err g c = inr (record { told = refl; rose = c.in-Err.ensures.rose; reads = c.are_empty.ensures.reads; unread = refl })
