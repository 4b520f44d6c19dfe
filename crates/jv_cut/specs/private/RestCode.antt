-- A rest as a tuple, and back.
use Rattle.std.specs.Prelude.{ℕ, List, Bool, refl}
use Rattle.std.specs.Coded.{Coded, code_by, coded×, coded_ℕ, coded_list, coded_bool}
use Rattle.jv_cut.specs.Rest.{Rest}

abbrev pub rest_code : Coded Rest
rest_code =
    code_by (List ℕ × (ℕ × Bool)) (coded× (coded_list coded_ℕ) (coded× coded_ℕ coded_bool))
    (λ r. (r.unread, (r.place, r.ended))) (λ p. record { unread = p.0; place = p.1.0; ended = p.1.1 }) (λ _. refl)
