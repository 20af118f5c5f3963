use Rattle.fdp_found.proofs.Opening.{holds-opened, leads-opened, led-opened, units-opened}
use Rattle.fdp_found.proofs.tables.opened_tables_are_led.Goals as goal

pub returns-clause-led : goal.returns-clause-led
returns-clause-led c config cells r t valid is can opened = led-opened config cells r t valid is can opened

pub returns-clause-leads : goal.returns-clause-leads
returns-clause-leads c = leads-opened

pub returns-clause-holds : goal.returns-clause-holds
returns-clause-holds c = holds-opened

pub returns-clause-units : goal.returns-clause-units
returns-clause-units c = units-opened
