use Rattle.std.proofs.Common.{◌<◌, false, get_or, is_some, None, sym, ◌∙◌, map, rules, arith}
use Rattle.std.proofs.lemmas.List.{ext_get_or, length-map, get_or-map}
use Rattle.pageset.proofs.Filled.{filled}
use Rattle.pool.proofs.pool.Pool.occupied.Goals as goal

pub returns : goal.returns
returns g c =
    let s = c.args.self.now in
    let r = c.from_fn.ensures.items in
    ext_get_or false c.from_fn.result (map is_some s.frames) (r.long ∙ sym s.sized ∙ sym (length-map s.frames is_some))
    (λ k h.
    let l : k < 16 = omega (arith, r.long, h) in
    filled _ (λ j. is_some (get_or s.frames j None)) _ (λ j y q w. (search rules, search rules)) c.from_fn.result 16 r k false l
    ∙ sym (get_or-map is_some s.frames k None false (omega (arith, l, s.sized))))
