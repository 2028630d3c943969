-- What is looked for, as a watch.
use Rattle.watchers.specs.declared.watch.Sought.{Sought}
use Rattle.watchers.specs.declared.watch.Watch.{Watch}

abbrev pub watch_sought : Sought → Watch
watch_sought s = record { account = s.account.now; below = s.below; place = s.place }
