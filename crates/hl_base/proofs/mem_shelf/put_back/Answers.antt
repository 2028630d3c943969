use Rattle.std.proofs.Common.{refl, Some, slice_index_or}
use Rattle.hl_base.specs.declared.mem_shelf.Place.{Place}
use Rattle.hl_base.proofs.ShelfLaws.{put_here, put_others, put_places}
use Rattle.hl_base.proofs.mem_shelf.put_back.Goals as goal

pub returns-in-Some : goal.returns-in-Some
returns-in-Some c =
    let name = c.args.name.now in
    let places = c.args.places.now in
    let i = c.in-Some.i in
    let d = c.index-places-i.result in
    let place : Place = record { name = (slice_index_or places i d).name; disk = Some c.args.disk } in
    record {
      here = put_here name places i d place c.args.disk c.in-Some.ensures.some refl refl;
      others = λ other apart. put_others name places i d place other c.in-Some.ensures.some refl apart;
      places = λ other. put_places name places i d place other c.in-Some.ensures.some refl;
    }
