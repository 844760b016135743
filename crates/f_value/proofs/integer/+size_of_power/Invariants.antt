use Rattle.f_value.proofs.integer.+size_of_power.Given as goal

abbrev pub decreases-size_of_power : goal.decreases-size_of_power
decreases-size_of_power l = l.n
