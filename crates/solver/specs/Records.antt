-- What the methods of the records of solver/mod.rs give. Definitions only.
use Rattle.std.specs.Prelude.{Bool, false, cond, ltb, Float}
use Rattle.std.specs.Float.{inf, binary64}
use Rattle.std.specs.Float.Ieee.{of_bits, lt}
use Rattle.float.specs.Float.{#0, ◌⊘◌}
use Rattle.solver.specs.declared.RankInfo.{RankInfo}
use Rattle.solver.specs.declared.IterOptions.{IterOptions}

abbrev pub deficient : RankInfo → Bool
deficient r = ltb r.rank r.n_free

abbrev pub condition_number : RankInfo → Float
condition_number r = cond (lt #0 r.sigma_min) (r.sigma_max ⊘ r.sigma_min) (inf false)

-- 50, 1e-6, 1e-3, 10, 10, false, 1.345
abbrev pub defaults : IterOptions
defaults =
    record {
      max_iter = 50;
      tol_rad = of_bits binary64 0x3eb0c6f7a0b5ed8d;
      initial_lambda = of_bits binary64 0x3f50624dd2f1a9fc;
      lambda_up = of_bits binary64 0x4024000000000000;
      lambda_down = of_bits binary64 0x4024000000000000;
      robust = false;
      huber_k = of_bits binary64 0x3ff5851eb851eb85;
    }
