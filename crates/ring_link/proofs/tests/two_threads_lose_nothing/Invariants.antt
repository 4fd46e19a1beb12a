use Rattle.ring_link.specs.Links.{IsLinked}
use Rattle.ring_link.proofs.tests.two_threads_lose_nothing.Given as goal

abbrev pub invariant-loop-message : goal.invariant-loop-message
invariant-loop-message g l = IsLinked l.link

abbrev pub invariant-loop-message-2 : goal.invariant-loop-message-2
invariant-loop-message-2 g l = IsLinked l.link
