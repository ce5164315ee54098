use Rattle.std.proofs.Common.{sym, ap, ◌∙◌}
use Rattle.life.specs.Lives.{look}
use Rattle.life.specs.Parts.{key_parts}
use Rattle.register.specs.Held.{Held}
use Rattle.register.proofs.Changes.{found_is}
use Rattle.register.proofs.register.Register.find.Goals as goal

pub returns-clause-found : goal.returns-clause-found
returns-clause-found g c = sym (found_is c.args.key.now (g.S.Store.pairs c.self.inside.store.now) c.find.result c.find.ensures) ∙ ap (λ (h : Held _). look (key_parts c.args.key.now) h.lives) c.self.view_is
