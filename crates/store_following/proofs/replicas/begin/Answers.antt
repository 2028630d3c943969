use Rattle.std.proofs.Common.{◌≡◌, ℕ, List, Option, Some, None, Ok, Err, IfSome, refl, ◌∙◌, subst}
use Rattle.follower.specs.Heads.{BeginsWith}
use Rattle.follower.specs.declared.frame.Frame.{Frame}
use Rattle.store_following.proofs.Ending.{frame_found}
use Rattle.store_following.proofs.replicas.begin.Goals as goal

pub returns-in-Some : goal.returns-in-Some
returns-in-Some g c =
    let source = g.J.Source in
    let left = source.left c.args.source.now in
    let later = source.left c.next_frame.new.source in
    record {
      found = Ok (Some c.in-Some.frame);
      mid = c.next_frame.new.source;
      first = record {
        told = subst (λ (o : Option Frame). IfSome left (λ bytes. (rest : List ℕ) × (later ≡ Some rest) × BeginsWith bytes o rest)) c.in-Some.is c.in-Ok.ensures.found;
        refused = tt;
        steady = c.in-Ok.ensures.steady;
        sound = λ h. (frame_found (Some c.in-Some.frame), (c.next_frame.ensures.sound h).1);
      };
      starts = (c.make.ensures.small, c.make.ensures.makes);
    }

pub returns-in-None : goal.returns-in-None
returns-in-None g c =
    let source = g.J.Source in
    let left = source.left c.args.source.now in
    let later = source.left c.next_frame.new.source in
    record {
      found = Ok None;
      mid = c.next_frame.new.source;
      first = record {
        told = subst (λ (o : Option Frame). IfSome left (λ bytes. (rest : List ℕ) × (later ≡ Some rest) × BeginsWith bytes o rest)) c.in-None.is c.in-Ok.ensures.found;
        refused = tt;
        steady = c.in-Ok.ensures.steady;
        sound = λ h. (frame_found None, (c.next_frame.ensures.sound h).1);
      };
      starts = (refl, refl, refl);
    }

pub returns-in-Err : goal.returns-in-Err
returns-in-Err g c = record {
  found = Err c.in-Err.fault;
  mid = c.next_frame.new.source;
  first = record {
    told = tt;
    refused = c.in-Err.ensures.refused;
    steady = tt;
    sound = λ h. let s = c.next_frame.ensures.sound h in ((λ e. s.0 (c.in-Err.is ∙ e)), s.1);
  };
  starts = (refl, refl, refl);
}
