use Rattle.fcc_core.proofs.say.say_ended.Goals as goal

pub returns-in-Steps : goal.returns-in-Steps
returns-in-Steps g c = rw c.in-Steps.is c.say.ensures

pub returns-in-Input : goal.returns-in-Input
returns-in-Input g c = rw c.in-Input.is c.say-in-Input.ensures

pub returns-in-Put : goal.returns-in-Put
returns-in-Put g c = rw c.in-Put.is c.say-in-Put.ensures
