use Rattle.std.proofs.Common.{Option, refl, subst}
use Rattle.std.specs.Option.{MatchOption}
use Rattle.command.specs.declared.words.Command.{Command}
use Rattle.command.specs.Words.{texts, Says, SaysNothing}
use Rattle.fcc_core.proofs.Answering.{no_words, no_room, of_command}
use Rattle.fcc_core.proofs.Complete.{complete}
use Rattle.fcc_core.proofs.top.fcc.Goals as goal

pub returns-in-Some-clause-answered : goal.returns-in-Some-clause-answered
returns-in-Some-clause-answered g c =
    let P : Option Command → Type 0 = λ o. MatchOption o (SaysNothing (texts c.args.words.now)) (Says (texts c.args.words.now)) in
    of_command _ _ _ _ _ _ _ _ (subst P c.in-Some.is c.in-Ok.ensures) c.obey.ensures.obeyed

pub returns-in-None-clause-answered : goal.returns-in-None-clause-answered
returns-in-None-clause-answered g c =
    let P : Option Command → Type 0 = λ o. MatchOption o (SaysNothing (texts c.args.words.now)) (Says (texts c.args.words.now)) in
    no_words _ _ _ _ _ _ _ (subst P c.in-None.is c.in-Ok.ensures) refl refl c.say.ensures

pub returns-in-Err-clause-answered : goal.returns-in-Err-clause-answered
returns-in-Err-clause-answered g c = no_room _ _ _ _ _ _ _ refl refl c.say_memory.ensures

pub returns-in-Some-clause-complete : goal.returns-in-Some-clause-complete
returns-in-Some-clause-complete g c = complete _ _ _ _ _ _ _ (returns-in-Some-clause-answered g c)

pub returns-in-None-clause-complete : goal.returns-in-None-clause-complete
returns-in-None-clause-complete g c = complete _ _ _ _ _ _ _ (returns-in-None-clause-answered g c)

pub returns-in-Err-clause-complete : goal.returns-in-Err-clause-complete
returns-in-Err-clause-complete g c = complete _ _ _ _ _ _ _ (returns-in-Err-clause-answered g c)
