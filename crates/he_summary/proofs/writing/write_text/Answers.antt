use Rattle.std.proofs.lemmas.Result.{on_ok_weaker}
use Rattle.he_summary.proofs.writing.write_text.Goals as goal

pub returns : goal.returns
returns g c =
    on_ok_weaker c.write_servers.result
    (λ servers. record {
      first = c.write_figures.new.text.items;
      second = c.write_addresses.new.text.items;
      headed = c.in_ok-write_figures.ensures;
      addresses = c.in_ok-write_addresses.ensures;
      servers = servers;
    })
    c.write_servers.ensures
