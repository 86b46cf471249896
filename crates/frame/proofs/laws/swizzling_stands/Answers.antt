use Rattle.frame.proofs.Swizzles.{pointwise, same_places, same_places_back, back, unmoved, kept, there}
use Rattle.frame.proofs.laws.swizzling_stands.Goals as goal

pub returns : goal.returns
returns c = record { pointwise = pointwise; places = same_places; places_back = same_places_back; back = back; unmoved = unmoved; kept = kept; there = there }
