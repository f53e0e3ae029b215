pub mod DossierPromises
