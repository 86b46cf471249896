use Rattle.stands.proofs.Courses.{shown, reads, opens, comes, settles, lawful_ends, same_starts}
use Rattle.stands.proofs.Slots.{slots_suffice}
use Rattle.stands.proofs.laws.courses_stand.Goals as goal

pub returns : goal.returns
returns c = record { shown = shown; reads = reads; opens = opens; comes = comes; settles = settles; ends = lawful_ends; starts = same_starts; slots = slots_suffice }
