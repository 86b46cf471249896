use Rattle.stands.proofs.Stands.{provides, empties, brings, saves, clean_all, saves_all}
use Rattle.stands.proofs.Edits.{sets, adds}
use Rattle.stands.proofs.laws.laws_stand.Goals as goal

pub returns : goal.returns
returns c = record { provides = provides; empties = empties; brings = brings; sets = sets; adds = adds; saves = saves; clean = clean_all; saves_all = saves_all }
