use Rattle.rw_fleet.proofs.WindowLemmas.{places_within}
use Rattle.rw_fleet.proofs.ends.meet.Goals as goal

pub returns-in-Open-Killed-clause-within : goal.returns-in-Open-Killed-clause-within
returns-in-Open-Killed-clause-within g c =
    let b = c.begins-feed.ensures in
    rw c.in-Open-Killed.is-0 (places_within c.in-Open-Killed.feed _ c.in-Open-Killed.drain _ b.same.0 b.same.1 b.begins b.within)

pub returns-in-Ended-Killed-clause-within : goal.returns-in-Ended-Killed-clause-within
returns-in-Ended-Killed-clause-within g c =
    let b = c.begins-feed-in-Ended-Killed.ensures in
    rw c.in-Ended-Killed.is-0 (places_within c.in-Ended-Killed.feed _ c.in-Ended-Killed.drain _ b.same.0 b.same.1 b.begins b.within)
