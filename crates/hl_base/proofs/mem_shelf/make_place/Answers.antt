use Rattle.std.proofs.Common.{rules, ◌≡◌, ◌∷◌, [], ◌++◌, List, None, IsTrue, refl, subst, sym}
use Rattle.hl_base.specs.declared.mem_shelf.Place.{Place}
use Rattle.hl_base.specs.MemShelf.{has_place, PlacesStay}
use Rattle.hl_base.proofs.ShelfLaws.{places_stay, place_made}
use Rattle.hl_base.proofs.mem_shelf.make_place.Goals as goal

pub returns-clause-stay : goal.returns-clause-stay
returns-clause-stay c =
    let place : Place = record { name = c.in_ok-name.name; disk = None } in
    let pushed : c.push.new.self.items ≡ c.args.places.now.items ++ place ∷ [] = search rules in
    subst (λ (l : List Place). PlacesStay c.args.places.now.items l) (sym pushed) (places_stay c.args.places.now.items place refl)

pub returns-clause-made : goal.returns-clause-made
returns-clause-made c =
    let place : Place = record { name = c.in_ok-name.name; disk = None } in
    let pushed : c.push.new.self.items ≡ c.args.places.now.items ++ place ∷ [] = search rules in
    let name_is : c.in_ok-name.name ≡ c.args.name.now = search rules in
    subst (λ (l : List Place). IsTrue (has_place c.args.name.now l)) (sym pushed) (place_made c.args.name.now c.args.places.now.items place name_is)
