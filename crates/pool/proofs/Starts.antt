-- A pool that begins. Assumes nothing.
use Rattle.std.proofs.Common.{◌≡◌, ℕ, List, length, get_or, replicate, is_some, None, Option, ap}
use Rattle.std.proofs.lemmas.Bool.{both_ways}
use Rattle.address.specs.Pairing.{Agree}
use Rattle.page.specs.declared.descriptor.Descriptor.{Descriptor}
use Rattle.frame.specs.declared.frame.Frame.{Frame}
use Rattle.store.specs.Pages.{Page}
use Rattle.stands.specs.Frames.{HasAt, stands_for}
use Rattle.stands.proofs.Courses.{opens}
use Rattle.pool.specs.Meaning.{Fine}
use Rattle.pool.proofs.Frames.{frames_none}

no_frame : (k i : ℕ) (f : Frame) → HasAt (replicate k None) i f → ⊥
no_frame k i f h = both_ways (is_some (get_or (replicate k None) i None)) (frames_none k i) (ap (λ (x : Option Frame). is_some x) h)

pub starts_fine : (ts : List Descriptor) (slots page : List ℕ) (ps : List Page) (known told count : ℕ) → Agree page slots → known ≡ length ps → told ≡ count → Fine ts slots page ps (replicate 16 None) known told count
starts_fine ts slots page ps known told count agree same policy = record {
  sound = (opens ts slots page ps 16 agree).sound;
  counted = same;
  policy = policy;
  lawful = λ i f h. absurd (no_frame 16 i f h);
  needs = λ i f h. absurd (no_frame 16 i f h);
}

pub starts_stands : (ts : List Descriptor) (slots page : List ℕ) (ps : List Page) → Agree page slots → stands_for ts page ps (replicate 16 None) ≡ ps
starts_stands ts slots page ps agree = (opens ts slots page ps 16 agree).stands
